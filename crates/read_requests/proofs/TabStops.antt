-- Tab stops that are read one after another, each beside the one before.
use Rattle.std.proofs.Common.{◌≡◌, ◌≤◌, ◌<◌, ◌+◌, Bool, ℕ, zero, suc, ℤ, pos, List, [], ◌∷◌, ◌++◌, length, length-append, map, drop, take, slice_get, Some, Result, Ok, Err, refl, sym, ap, ◌∙◌, add-one, arith, ◌/◌, append-nil}
use Rattle.std.proofs.Math.Seq.{append_snoc}
use Rattle.std.proofs.lemmas.List.{drop_all, map-append}
use Rattle.roff_num.specs.Steps.{followed}
use Rattle.roff_num.specs.declared.num.NumFault.{NumFault}
use Rattle.read_meaning.specs.Events.{stop_at, stops_set}
use Rattle.run_model.specs.Numbers.{at_least_zero, rounded_in_range}
use Rattle.page_model.specs.declared.event.Event.TheVariants.{Set}
use Rattle.page_model.specs.declared.settings.Param.TheVariants.{NoStops}
use Rattle.page_model.specs.declared.stop.TabStop.{TabStop}
use Rattle.page_model.specs.declared.stop.StopKind.{StopKind}
use Rattle.run_model.specs.PageEvents.{PageEvent}
use Rattle.run_model.specs.declared.event.PageEvent.TheVariants.{Text}
use Rattle.run_model.specs.Requests.Effects.{Response, bad_number, happens, meant_by, saying}
use Rattle.run_model.specs.Requests.Tabs.{setting_stops, stop_kind, stop_place, stop_places, stop_set}

-- where a stop lies, in basic units, and its kind
abbrev pub Placed : Type 0
Placed = ℤ × StopKind

-- the column of a stop
abbrev pub column_at : ℤ → ℕ
column_at place = at_least_zero place / 24

-- a stop as the code keeps it
abbrev pub stop_of : Placed → TabStop
stop_of stop = record { column = column_at stop.0; kind = stop.1 }

-- these stops in front of others
abbrev in_front : List Placed → Result (List Placed) NumFault → Result (List Placed) NumFault
in_front stops others = followed others (λ more. Ok (stops ++ more))

-- these stops of the first so many texts are read, the last of them lies here, and the rest decides
pub record ReadSoFar (texts : List (List ℕ)) (count : ℕ) (before : ℤ) (kept : List TabStop) : Type 0 where
  pub stops : List Placed
  pub kept_are : kept ≡ map stop_of stops
  pub few : length kept ≤ count
  pub decide : stop_places (pos 0) texts ≡ in_front stops (stop_places before (drop count texts))

-- a stop in front of others, behind these
in_front-more : (stops : List Placed) (stop : Placed) (others : Result (List Placed) NumFault)
    → in_front stops (followed others (λ more. Ok (stop ∷ more))) ≡ in_front (stops ++ stop ∷ []) others
in_front-more stops stop (Ok more) = ap (λ (all : List Placed). Ok all) (sym (append_snoc stops stop more))
in_front-more stops stop (Err fault) = refl

-- a text, and those behind it
drop_next : (n : ℕ) (texts : List (List ℕ)) (text : List ℕ) → slice_get texts n ≡ Some text → drop n texts ≡ text ∷ drop (suc n) texts
drop_next n [] text is = cc
drop_next zero (first ∷ texts) text is = let same : first ≡ text = cc in ap (λ (t : List ℕ). t ∷ texts) same
drop_next (suc n) (first ∷ texts) text is = drop_next n texts text is

-- the stop of a text, in front of those behind it
stop_places-next : (before place stop : ℤ) (text : List ℕ) (others : List (List ℕ)) → stop_place before text ≡ Ok place → Ok stop ≡ rounded_in_range 24 place
    → stop_places before (text ∷ others) ≡ followed (stop_places stop others) (λ more. Ok ((stop, stop_kind text) ∷ more))
stop_places-next before place stop text others placed rounded =
    let behind : Result ℤ NumFault → Result (List Placed) NumFault = λ r. followed r (λ s. followed (stop_places s others) (λ more. Ok ((s, stop_kind text) ∷ more))) in
    ap (λ (r : Result ℤ NumFault). behind (followed r (rounded_in_range 24))) placed ∙ ap behind (sym rounded)

-- a text that gives none
stop_places-fault : (before : ℤ) (text : List ℕ) (others : List (List ℕ)) (fault : NumFault) → stop_place before text ≡ Err fault
    → stop_places before (text ∷ others) ≡ Err fault
stop_places-fault before text others fault fails =
    let behind : Result ℤ NumFault → Result (List Placed) NumFault = λ r. followed r (λ s. followed (stop_places s others) (λ more. Ok ((s, stop_kind text) ∷ more))) in
    ap (λ (r : Result ℤ NumFault). behind (followed r (rounded_in_range 24))) fails

-- one stop more is read
pub ReadSoFar-next : (texts : List (List ℕ)) (count : ℕ) (before place stop : ℤ) (kept behind : List TabStop) (text : List ℕ)
    → ReadSoFar texts count before kept → slice_get texts count ≡ Some text → stop_place before text ≡ Ok place → Ok stop ≡ rounded_in_range 24 place
    → behind ≡ kept ++ stop_of (stop, stop_kind text) ∷ [] → ReadSoFar texts (count + 1) stop behind
ReadSoFar-next texts count before place stop kept behind text so_far is placed rounded grown =
    let one : Placed = (stop, stop_kind text) in
    record {
      stops = so_far.stops ++ one ∷ [];
      kept_are =
          grown ∙ ap (λ (ss : List TabStop). ss ++ stop_of one ∷ []) so_far.kept_are ∙ sym (map-append stop_of so_far.stops (one ∷ []));
      few = omega (arith, so_far.few, ap length grown, length-append kept (stop_of one ∷ []));
      decide =
          let next : List (List ℕ) = drop (suc count) texts in
          so_far.decide
          ∙ ap (λ (rest : List (List ℕ)). in_front so_far.stops (stop_places before rest)) (drop_next count texts text is)
          ∙ ap (in_front so_far.stops) (stop_places-next before place stop text next placed rounded)
          ∙ in_front-more so_far.stops one (stop_places stop next)
          ∙ ap (λ (n : ℕ). in_front (so_far.stops ++ one ∷ []) (stop_places stop (drop n texts))) (sym (add-one count));
    }

-- a text is no number: nothing is set
pub nothing_read : (texts : List (List ℕ)) (count : ℕ) (before : ℤ) (kept : List TabStop) (text : List ℕ) (fault : NumFault)
    → ReadSoFar texts count before kept → slice_get texts count ≡ Some text → stop_place before text ≡ Err fault
    → bad_number ≡ setting_stops (stop_places (pos 0) texts)
nothing_read texts count before kept text fault so_far is fails =
    sym (ap setting_stops
    (so_far.decide
    ∙ ap (λ (rest : List (List ℕ)). in_front so_far.stops (stop_places before rest)) (drop_next count texts text is)
    ∙ ap (in_front so_far.stops) (stop_places-fault before text (drop (suc count) texts) fault fails)))

-- the events of stops, as the code keeps these
stops_set-kept : (stops : List Placed) → map stop_at (map stop_of stops) ≡ map stop_set stops
stops_set-kept [] = refl
stops_set-kept (stop ∷ stops) = ap (λ (es : List PageEvent). stop_set stop ∷ es) (stops_set-kept stops)

-- all texts are read
pub all_read : (texts : List (List ℕ)) (count : ℕ) (before : ℤ) (kept : List TabStop) → ReadSoFar texts count before kept → length texts ≤ count
    → happens [] (stops_set kept) ≡ setting_stops (stop_places (pos 0) texts)
all_read texts count before kept so_far behind =
    let set : List PageEvent → Response = λ es. happens [] (Text (Set NoStops) ∷ es) in
    ap (λ (ss : List TabStop). happens [] (stops_set ss)) so_far.kept_are
    ∙ ap set (stops_set-kept so_far.stops)
    ∙ ap (λ (stops : List Placed). setting_stops (Ok stops)) (sym (append-nil so_far.stops))
    ∙ ap (λ (rest : List (List ℕ)). setting_stops (in_front so_far.stops (stop_places before rest))) (sym (drop_all count texts behind))
    ∙ ap setting_stops (sym so_far.decide)

-- a request for stops says something and sets them, and changes nothing else
pub stops_meant : (breaks : Bool) (stops : Result (List Placed) NumFault)
    → let effect = meant_by breaks (setting_stops stops) in saying effect.messages effect.events ≡ effect
stops_meant breaks (Ok stops) = refl
stops_meant breaks (Err fault) = refl

-- of the first so many texts, one of them
pub slice_get-take : (n most : ℕ) (texts : List (List ℕ)) → n < most → slice_get (take most texts) n ≡ slice_get texts n
slice_get-take n zero texts less = absurd (omega (arith, less))
slice_get-take n (suc most) [] less = refl
slice_get-take zero (suc most) (text ∷ texts) less = refl
slice_get-take (suc n) (suc most) (text ∷ texts) less = slice_get-take n most texts (omega (arith, less))
