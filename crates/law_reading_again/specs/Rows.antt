-- What texts give as they are read in a diversion: worked rows are computed with these.
use Rattle.std.specs.Prelude.{ℕ, List, [], ◌∷◌, map, None}
use Rattle.roff_num.specs.LimitValues.{default_limits}
use Rattle.roff_num.specs.declared.short_name.ShortName.{ShortName}
use Rattle.page_model.specs.Layout.{Box, Diversion}
use Rattle.run_model.specs.Output.{layout_of}
use Rattle.run_model.specs.Results.{turns}
use Rattle.run_model.specs.Run.{State}
use Rattle.input_source.specs.Tape.{Failed, OneByte}
use Rattle.law_reading_again.specs.Again.{again_start}

-- the name D
abbrev pub diverted_name : ShortName
diverted_name = record { first = 68; second = None }

-- the boxes of the innermost of open diversions, the newest first
abbrev pub innermost_boxes : List Diversion → List Box
innermost_boxes [] = []
innermost_boxes (d ∷ ds) = d.boxes

-- the boxes that a text gives in front of a source that fails
abbrev pub boxes_given : List ℕ → List Box
boxes_given text =
    let start : State = again_start diverted_name (record { items = map OneByte text; ending = Failed }) in
    innermost_boxes (layout_of (turns default_limits 1000 start).history).diversions
