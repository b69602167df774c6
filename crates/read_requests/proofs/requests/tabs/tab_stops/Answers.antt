use Rattle.std.proofs.Common.{◌≡◌, ◌<◌, ◌≤◌, ◌∷◌, ◌++◌, [], Some, None, Ok, length, rules, slice_get, sym, ap, ◌∙◌, w32, FitsSigned, take, length-take}
use Rattle.std.proofs.lemmas.Int.{to_z-of_z}
use Rattle.std.proofs.lemmas.Option.{slice_get-get_or}
use Rattle.input_arguments.specs.ArgumentList.{listed}
use Rattle.run_model.specs.Numbers.{rounded_in_range}
use Rattle.run_model.specs.Requests.Tabs.{most_stops, stop_kind}
use Rattle.read_requests.proofs.TabStops.{ReadSoFar-next, all_read, column_at, nothing_read, slice_get-take, stop_of}
use Rattle.read_requests.proofs.requests.tabs.tab_stops.Goals.{in-Some+in-Ok, in_default}
use Rattle.read_requests.proofs.requests.tabs.tab_stops.Goals as goal

pub loop-index-preserved : goal.loop-index-preserved
loop-index-preserved c =
    let n = c.loop-index.index in
    let texts = listed c.args.given in
    elim c.match-get.branch [
      | in-Some+in-Ok w ↦
          let text = w.in-Some.text.now in
          let stop = w.rounded_to_columns-before.result in
          let given : slice_get texts n ≡ Some text = search rules in
          let less : n < most_stops = search rules in
          let fits : FitsSigned w32 stop = search rules in
          let column : w.column_of.result ≡ column_at stop = w.column_of.ensures ∙ ap column_at (to_z-of_z w32 stop fits) in
          let grown : w.push.new.self.items ≡ c.loop-index.stops.items ++ stop_of (stop, stop_kind text) ∷ [] =
          rw (column, w.stop_kind.ensures) at w.push.ensures.items in
          let place_fits : FitsSigned w32 w.in-Ok.place = search rules in
          let rounded : Ok stop ≡ rounded_in_range 24 w.in-Ok.place =
          w.rounded_to_columns-before.ensures ∙ ap (rounded_in_range 24) (to_z-of_z w32 w.in-Ok.place place_fits) in
          rw (w.stops-is, w.before-is, to_z-of_z w32 stop fits)
          (ReadSoFar-next (take most_stops texts) n _ w.in-Ok.place stop _ w.push.new.self.items text c.loop-index.invariant
          (slice_get-take n most_stops texts less ∙ given) (sym w.in-Ok.ensures) rounded grown)
      | in_default w ↦
          let within : n < length texts = search rules in
          let some = slice_get-get_or texts n [] within in
          let none : slice_get texts n ≡ None = search rules in
          let differs = sym none ∙ some in cc
    ]

pub returns-in-Err : goal.returns-in-Err
returns-in-Err c =
    let n = c.loop-index.index in
    let texts = listed c.args.given in
    let given : slice_get texts n ≡ Some c.in-Some.text.now = search rules in
    let less : n < most_stops = search rules in
    nothing_read (take most_stops texts) n _ _ c.in-Some.text.now c.in-Err.field-0 c.loop-index.invariant (slice_get-take n most_stops texts less ∙ given) (sym c.in-Err.ensures)

pub returns : goal.returns
returns c =
    let texts = listed c.args.given in
    let past : length (take most_stops texts) ≤ c.loop-index.index = rw (length-take most_stops texts) (search rules) in
    all_read (take most_stops texts) c.loop-index.index _ _ c.loop-index.invariant past
