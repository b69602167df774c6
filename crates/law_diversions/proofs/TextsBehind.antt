-- What becomes of the texts of open diversions behind what happens, and behind the change of a text.
use Rattle.std.proofs.Common.{◌≡◌, ◌-◌, ℕ, Bool, true, false, not, List, [], ◌∷◌, ◌++◌, length, length-append, append_assoc, append-nil, get_or, set, Option, Some, None, arith, refl, sym, ◌∙◌, ap, subst, nat_le, if◌then◌else◌}
use Rattle.std.specs.List.{remove}
use Rattle.input_model.specs.Input.Names.{calling, calling_on, entering_open, open_numbered, texts_of}
use Rattle.page_model.specs.DivertedText.{diverted_line, diverted_lines}
use Rattle.page_model.specs.DueTexts.{TextDue, Begins, Ends, Gets, AllDropped, bytes_due, drop_due, due_by, end_due}
use Rattle.page_model.specs.Happenings.{Happening, Does, Places, Titles}
use Rattle.page_model.specs.Layout.{Box, Diversion, Layout, page_place}
use Rattle.page_model.specs.Puts.{Put, appended, boxes_put, puts}
use Rattle.page_model.specs.Stops.{is_diverted, target}
use Rattle.page_model.specs.Turning.{behind_put, in_diversion, in_innermost, next_behind, turned_if_full, unput, with_boxes, with_diversion_trap, with_event, with_mode, without_innermost}
use Rattle.page_model.specs.Words.{is_empty}
use Rattle.page_model.specs.declared.layout_event.LayoutEvent.{LayoutEvent}
use Rattle.page_model.specs.declared.layout_event.LayoutEvent.TheVariants.{Close, Space, Need, Eject, EjectTo, EjectOn, EjectLast, NoSpace, DiversionTrap, NoDiversionTrap, Divert, EndDivert}
use Rattle.page_model.specs.declared.trap.Trap.{Trap}
use Rattle.roff_num.specs.ShortNames.{name_bytes}
use Rattle.roff_num.specs.declared.short_name.ShortName.{ShortName}
use Rattle.run_model.specs.Environments.{PageHistory}
use Rattle.run_model.specs.Following.{following, text_behind, text_changed}
use Rattle.run_model.specs.Layouts.{happens, laid_out, layout_of}
use Rattle.run_model.specs.PageEvents.{PastEvent}
use Rattle.run_model.specs.Reading.Items.{PageInput}
use Rattle.roff_store.specs.TextCalls.{Call, Enter, PushOpen, open_text}
use Rattle.law_runs.proofs.PutHolds.{put-holds}
use Rattle.law_diversions.specs.DivertedTexts.{diverted_texts}
use Rattle.law_diversions.proofs.OpenDiversions.{diversions-turned}
use Rattle.law_diversions.proofs.OpenTexts.{get_or-at, is-there, remove-at, set-at}

-- what becomes of the texts, told what is due
pub data TextsMove (before after : List Diversion) : Option TextDue → Type 0 where
  TextsStay : diverted_texts after ≡ diverted_texts before → TextsMove before after None
  OneBegins : diverted_texts after ≡ diverted_texts before ++ [] ∷ [] → TextsMove before after (Some Begins)
  OneEnds : (d : Diversion) (index : ℕ) (name : ShortName) (appends : Bool) → before ≡ d ∷ after → index ≡ length after → d.name ≡ name
      → d.appends ≡ appends
      → TextsMove before after (Some (Ends index name appends))
  OneGets : (d : Diversion) (ds : List Diversion) (bytes : List ℕ) → before ≡ d ∷ ds
      → diverted_texts after ≡ diverted_texts ds ++ (diverted_lines d.boxes ++ bytes) ∷ []
      → TextsMove before after (Some (Gets (length ds) bytes))
  AllGo : after ≡ [] → TextsMove before after (Some AllDropped)

-- the lines of boxes behind others
lines-behind : (boxes others : List Box) → diverted_lines (boxes ++ others) ≡ diverted_lines others ++ diverted_lines boxes
lines-behind [] others = sym (append-nil (diverted_lines others))
lines-behind (b ∷ boxes) others =
    ap (λ (text : List ℕ). text ++ diverted_line b) (lines-behind boxes others) ∙ append_assoc (diverted_lines others)
    (diverted_lines boxes) (diverted_line b)

-- with boxes in the innermost
lines-in : (d : Diversion) (boxes : List Box) (bytes : List ℕ) → diverted_lines boxes ≡ bytes
    → diverted_lines (in_diversion boxes d).boxes ≡ diverted_lines d.boxes ++ bytes
lines-in d boxes bytes is = lines-behind boxes d.boxes ∙ ap (λ (text : List ℕ). diverted_lines d.boxes ++ text) is

moved-in : (d : Diversion) (ds : List Diversion) (boxes : List Box) (bytes : List ℕ) → diverted_lines boxes ≡ bytes
    → TextsMove (d ∷ ds) (in_diversion boxes d ∷ ds) (bytes_due (d ∷ ds) bytes)
moved-in d ds boxes [] is =
    TextsStay (ap (λ (text : List ℕ). diverted_texts ds ++ text ∷ []) (lines-in d boxes [] is ∙ append-nil (diverted_lines d.boxes)))
moved-in d ds boxes (b ∷ bytes) is =
    let index : length (d ∷ ds) - 1 ≡ length ds = omega arith in
    subst (λ (n : ℕ). TextsMove (d ∷ ds) (in_diversion boxes d ∷ ds) (Some (Gets n (b ∷ bytes)))) (sym index)
    (OneGets d ds (b ∷ bytes) refl (ap (λ (text : List ℕ). diverted_texts ds ++ text ∷ []) (lines-in d boxes (b ∷ bytes) is)))

-- what is put by what isn't an eject
moved-put : (ds : List Diversion) (boxes : List Box)
    → TextsMove ds (if not (is_empty ds) then in_innermost boxes ds else ds)
    (bytes_due ds (if not (is_empty ds) then diverted_lines boxes else []))
moved-put [] boxes = TextsStay refl
moved-put (d ∷ ds) boxes = moved-in d ds boxes (diverted_lines boxes) refl

-- and the page ends, or not
moved-turned : (due : Option TextDue) (before : List Diversion) (x : Happening) (boxes : List Box) (L : Layout)
    → let N : Layout = with_boxes x boxes (record L { next = next_behind x L.next }) in
    TextsMove before N.diversions due → TextsMove before (turned_if_full N).diversions due
moved-turned due before x boxes L moved =
    let N : Layout = with_boxes x boxes (record L { next = next_behind x L.next }) in
    subst (λ (ds : List Diversion). TextsMove before ds due) (sym (diversions-turned (nat_le N.length (page_place N)) N.is_closing N)) moved

moved-boxes : (due : Option TextDue) (x : Happening) (boxes : List Box) (L : Layout) (p : Put)
    → TextsMove L.diversions (with_boxes x boxes (record L { next = next_behind x L.next })).diversions due
    → TextsMove L.diversions (behind_put x (Some p) boxes L).diversions due
moved-boxes due x boxes L p moved =
    put-holds (λ (M : Layout). TextsMove L.diversions M.diversions due) (is_diverted x L)
    (with_boxes x boxes (record L { next = next_behind x L.next }))
    moved (moved-turned due L.diversions x boxes L moved)

-- an eject goes on the page
moved-eject : (e : LayoutEvent) (p : Option Put) (boxes : List Box) (L : Layout) → is_diverted (Does e) L ≡ false
    → (behind_put (Does e) None boxes L).diversions ≡ L.diversions → TextsMove L.diversions (behind_put (Does e) p boxes L).diversions None
moved-eject e None boxes L on_page same = TextsStay (ap diverted_texts same)
moved-eject e (Some p) boxes L on_page same =
    moved-boxes None (Does e) boxes L p
    (TextsStay (ap (λ (c : Bool). diverted_texts (if c then in_innermost boxes L.diversions else L.diversions)) on_page))

-- and all else that may put something where text goes
none-put : (c : Bool) (ds : List Diversion) → TextsMove ds ds (bytes_due ds (if c then diverted_lines [] else []))
none-put true ds = TextsStay refl
none-put false ds = TextsStay refl

moved-by : (x : Happening) (p : Option Put) (boxes : List Box) (L : Layout) → (p ≡ None → boxes ≡ []) → unput x L ≡ L
    → is_diverted x L ≡ not (is_empty L.diversions)
    → TextsMove L.diversions (behind_put x p boxes L).diversions
    (bytes_due L.diversions (if is_diverted x L then diverted_lines boxes else []))
moved-by x None boxes L none same placed =
    subst (λ (bs : List Box). TextsMove L.diversions (unput x L).diversions
    (bytes_due L.diversions (if is_diverted x L then diverted_lines bs else []))) (sym (none refl))
    (subst (λ (M : Layout). TextsMove L.diversions M.diversions
    (bytes_due L.diversions (if is_diverted x L then diverted_lines [] else []))) (sym same)
    (none-put (is_diverted x L) L.diversions))
moved-by x (Some p) boxes L none same placed =
    moved-boxes (bytes_due L.diversions (if is_diverted x L then diverted_lines boxes else [])) x boxes L p
    (subst
    (λ (c : Bool). TextsMove L.diversions (if c then in_innermost boxes L.diversions else L.diversions)
    (bytes_due L.diversions (if c then diverted_lines boxes else [])))
    (sym placed) (moved-put L.diversions boxes))

-- modes and traps of diversions
texts-mode : (on : Bool) (ds : List Diversion) → diverted_texts (with_mode on ds) ≡ diverted_texts ds
texts-mode on [] = refl
texts-mode on (d ∷ ds) = refl

texts-trap : (trap : Option Trap) (ds : List Diversion) → diverted_texts (with_diversion_trap trap ds) ≡ diverted_texts ds
texts-trap trap [] = refl
texts-trap trap (d ∷ ds) = refl

-- the innermost one ends, or all do
moved-end : (ds : List Diversion) → TextsMove ds (without_innermost ds) (end_due ds)
moved-end [] = TextsStay refl
moved-end (d ∷ ds) = OneEnds d (length ds) d.name d.appends refl refl refl refl

moved-close : (ds : List Diversion) → TextsMove ds [] (drop_due ds)
moved-close [] = TextsStay refl
moved-close (d ∷ ds) = AllGo refl

-- behind an event of the layout
moved-does : (e : LayoutEvent) (L : Layout) → TextsMove L.diversions (with_event (Does e) L).diversions (due_by e L)
moved-does (Divert name appends) L = OneBegins refl
moved-does EndDivert L = moved-end L.diversions
moved-does Close L = moved-close L.diversions
moved-does (Space k) L =
    let x : Happening = Does (Space k) in moved-by x (puts x L) (appended x L) L (λ none. ap (boxes_put (target x L)) none) refl refl
moved-does (Need k) L =
    let x : Happening = Does (Need k) in moved-by x (puts x L) (appended x L) L (λ none. ap (boxes_put (target x L)) none) refl refl
moved-does (Eject asked) L = let x : Happening = Does (Eject asked) in moved-eject (Eject asked) (puts x L) (appended x L) L refl refl
moved-does (EjectTo asked number) L =
    let x : Happening = Does (EjectTo asked number) in moved-eject (EjectTo asked number) (puts x L) (appended x L) L refl refl
moved-does (EjectOn asked) L = let x : Happening = Does (EjectOn asked) in moved-eject (EjectOn asked) (puts x L) (appended x L) L refl refl
moved-does EjectLast L = let x : Happening = Does EjectLast in moved-eject EjectLast (puts x L) (appended x L) L refl refl
moved-does (NoSpace on) L = TextsStay (texts-mode on L.diversions)
moved-does (DiversionTrap trap) L = TextsStay (texts-trap (Some trap) L.diversions)
moved-does NoDiversionTrap L = TextsStay (texts-trap None L.diversions)
moved-does (_) L = TextsStay refl

-- behind what happens, if something does
moved-happens : (x : Option Happening) (L : Layout) → TextsMove L.diversions (laid_out x L).diversions (text_behind x L)
moved-happens None L = TextsStay refl
moved-happens (Some (Does e)) L = moved-does e L
moved-happens (Some (Places line)) L =
    let x : Happening = Places line in moved-by x (puts x L) (appended x L) L (λ none. absurd (cc)) refl refl
moved-happens (Some (Titles t)) L = let x : Happening = Titles t in moved-by x (puts x L) (appended x L) L (λ none. absurd (cc)) refl refl

-- behind an event
pub texts-moved : (h : PageHistory) (e : PastEvent) → TextsMove (layout_of h).diversions (layout_of (e ∷ h)).diversions (following h e).text
texts-moved h e = moved-happens (happens h e) (layout_of h)

-- there are as many texts as diversions
length-texts : (ds : List Diversion) → length (diverted_texts ds) ≡ length ds
length-texts [] = refl
length-texts (d ∷ ds) = omega (arith, length-append (diverted_texts ds) (diverted_lines d.boxes ∷ []), length-texts ds)

-- with more above them
one-among : (ds : List Diversion) (d : Diversion) (above texts : List (List ℕ)) → texts ≡ diverted_texts (d ∷ ds) ++ above
    → texts ≡ diverted_texts ds ++ diverted_lines d.boxes ∷ above
one-among ds d above texts is = is ∙ append_assoc (diverted_texts ds) (diverted_lines d.boxes ∷ []) above

-- a call on the text of a diversion is made
called-one : (call : ℕ → Call) (ds : List Diversion) (d : Diversion) (above : List (List ℕ)) (i : PageInput)
    → i.open_texts ≡ diverted_texts (d ∷ ds) ++ above
    → calling_on call (open_numbered (length ds) i) i ≡ calling (call (length (diverted_texts ds))) i
called-one call ds d above i is =
    ap (λ (n : ℕ). calling_on call (open_numbered n i) i) (sym (length-texts ds))
    ∙ ap (λ (id : Option ℕ). calling_on call id i)
    (is-there (diverted_texts ds) (diverted_lines d.boxes) above i (one-among ds d above i.open_texts is))

-- what is entered, and what is left then
pub entered-one : (ds : List Diversion) (d : Diversion) (above : List (List ℕ)) (name : List ℕ) (appends : Bool) (i : PageInput)
    → i.open_texts ≡ diverted_texts (d ∷ ds) ++ above
    → entering_open (length ds) name appends i ≡ calling (Enter (length (diverted_texts ds)) name appends) i
entered-one ds d above name appends i is = called-one (λ id. Enter id name appends) ds d above i is

pub text-entered : (ds : List Diversion) (d : Diversion) (above : List (List ℕ)) (i : PageInput)
    → i.open_texts ≡ diverted_texts (d ∷ ds) ++ above
    → open_text (length (diverted_texts ds)) (texts_of i) ≡ diverted_lines d.boxes
text-entered ds d above i is =
    ap (λ (texts : List (List ℕ)). get_or texts (length (diverted_texts ds)) []) (one-among ds d above i.open_texts is)
    ∙ get_or-at (diverted_texts ds) (diverted_lines d.boxes) above

-- a text that begins, or the drop of all, where no other one is made
abbrev pub needs_none : TextDue → Bool
needs_none Begins = true
needs_none AllDropped = true
needs_none (_) = false

-- the texts behind the change
pub texts-changed : (before after : List Diversion) (due : TextDue) (above : List (List ℕ)) (i : PageInput)
    → TextsMove before after (Some due)
    → i.open_texts ≡ diverted_texts before ++ above → (needs_none due ≡ true → above ≡ [])
    → (text_changed due i).open_texts ≡ diverted_texts after ++ above
texts-changed before after Begins above i (OneBegins is) texts none =
    let empty : above ≡ [] = none refl in
    ap (λ (all : List (List ℕ)). all ++ [] ∷ [])
    (texts ∙ ap (λ (more : List (List ℕ)). diverted_texts before ++ more) empty ∙ append-nil (diverted_texts before))
    ∙ sym is ∙ sym (append-nil (diverted_texts after)) ∙ ap (λ (more : List (List ℕ)). diverted_texts after ++ more) (sym empty)
texts-changed before after (Ends index name appends) above i (OneEnds d _ _ _ is at named appending) texts none =
    let there : i.open_texts ≡ diverted_texts (d ∷ after) ++ above = texts ∙ ap (λ (ds : List Diversion). diverted_texts ds ++ above) is in
    ap (λ (n : ℕ). (entering_open n (name_bytes name) appends i).open_texts) at
    ∙ ap (λ (j : PageInput). j.open_texts) (entered-one after d above (name_bytes name) appends i there)
    ∙ ap (λ (all : List (List ℕ)). remove all (length (diverted_texts after))) (one-among after d above i.open_texts there)
    ∙ remove-at (diverted_texts after) (diverted_lines d.boxes) above
texts-changed before after (Gets index bytes) above i (OneGets d ds more is behind) texts none =
    let there : i.open_texts ≡ diverted_texts (d ∷ ds) ++ above = texts ∙ ap (λ (ds : List Diversion). diverted_texts ds ++ above) is in
    let n : ℕ = length (diverted_texts ds) in
    let new : List ℕ = diverted_lines d.boxes ++ more in
    ap (λ (j : PageInput). j.open_texts) (called-one (λ id. PushOpen id more) ds d above i there)
    ∙ ap (λ (text : List ℕ). set i.open_texts n (text ++ more)) (text-entered ds d above i there)
    ∙ ap (λ (all : List (List ℕ)). set all n new) (one-among ds d above i.open_texts there)
    ∙ set-at (diverted_texts ds) (diverted_lines d.boxes) above new
    ∙ sym (append_assoc (diverted_texts ds) (new ∷ []) above)
    ∙ ap (λ (all : List (List ℕ)). all ++ above) (sym behind)
texts-changed before after AllDropped above i (AllGo is) texts none =
    sym (none refl) ∙ ap (λ (ds : List Diversion). diverted_texts ds ++ above) (sym is)
