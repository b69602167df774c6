-- What an event or a step makes grow, and the first limit that a count is above.
use Rattle.std.specs.Prelude.{ℕ, ◌+◌, ◌-◌, Bool, List, [], ◌∷◌, ◌++◌, length, nat_lt, Option, Some, None, if◌then◌else◌}
use Rattle.page_model.specs.Behind.{length_reached}
use Rattle.roff_num.specs.LimitValues.{value_of}
use Rattle.roff_num.specs.declared.limit.Limit.{Limit}
use Rattle.roff_num.specs.declared.limit.Limit.TheVariants.{Names, Stack, Depth, Line, Conditions, Store, Diversions, Environments as EnvironmentsLimit, Output, Traps}
use Rattle.roff_num.specs.declared.limits.Limits.{Limits}
use Rattle.input_model.specs.Input.Names.{names_added, stored}
use Rattle.input_model.specs.Input.{pushed, depth, result_count}
use Rattle.run_model.specs.Environments.{environments}
use Rattle.page_model.specs.Happenings.{Happening, Does}
use Rattle.page_model.specs.Layout.{Layout}
use Rattle.page_model.specs.Turning.{with_trap}
use Rattle.page_model.specs.declared.layout_event.LayoutEvent.{LayoutEvent}
use Rattle.page_model.specs.declared.layout_event.LayoutEvent.TheVariants.{Divert, Plant}
use Rattle.page_model.specs.DeviceText.{device_text}
use Rattle.run_model.specs.Output.{happens, layout_of, text_of, written}
use Rattle.run_model.specs.PageEvents.{PageHistory, PastEvent, Title}
use Rattle.run_model.specs.Reading.Items.{PageInput}
use Rattle.run_model.specs.Registers.{AllRegisters}
use Rattle.run_model.specs.Requests.{Text, Page, Interrupt, Environment, Back, SetsTrap}
use Rattle.run_model.specs.TitleTexts.{title_length}

-- the limit on bytes stops one more
abbrev pub passes_bytes : Limits → PageInput → Bool
passes_bytes l i = nat_lt l.bytes (i.charge + 1)

-- what is written, as it is behind what happens to the layout, if something does
abbrev pub written_counted : PageHistory → Option Happening → List (Limit × ℕ)
written_counted h None = []
written_counted h (Some x) = (Output, length (written h) + length (device_text x (layout_of h))) ∷ []

-- the traps that stand behind an event of the pages, or the diversions that are open, where it makes them grow
abbrev pub placed_counted : LayoutEvent → Layout → List (Limit × ℕ)
placed_counted (Plant trap) L = (Traps, length (with_trap trap L.traps)) ∷ []
placed_counted (Divert name appends) L = (Diversions, length L.diversions + 1) ∷ []
placed_counted (_) L = []

-- what an event makes grow, each count as it is behind the event, in the order in which they are looked at
abbrev pub counts : PageHistory → PastEvent → List (Limit × ℕ)
counts h (Text e) = (Line, length_reached e (text_of h)) ∷ written_counted h (happens h (Text e))
counts h (Page e) = placed_counted e (layout_of h) ++ written_counted h (Some (Does e))
counts h (Interrupt line) = []
counts h (Environment number) = (EnvironmentsLimit, length (environments h).left + 1) ∷ []
counts h Back = []
counts h (SetsTrap trap) = []
counts h (Title t) = written_counted h (happens h (Title t))

-- the first limit that a count is above
abbrev pub first_passed : Limits → List (Limit × ℕ) → Option Limit
first_passed l [] = None
first_passed l (c ∷ cs) = if nat_lt (value_of l c.0) c.1 then Some c.0 else first_passed l cs

-- the limit that an event would pass behind a history, if it would pass one
abbrev pub refusal : Limits → PageHistory → PastEvent → Option Limit
refusal l h e = first_passed l (counts h e)

-- the names that registers have count, as they are behind a change
abbrev pub names_counted : AllRegisters → List (Limit × ℕ)
names_counted rs = (Names, length rs.named) ∷ []

-- What a step may make grow, as it is behind the step, in the order in which it is looked at: names, the bytes of a title, the
-- store's bytes and the texts in the making come before what stands in front. No step makes more than one of the first two and of
-- the others grow. One text may be made beside the diversions: that of a string or a macro.
abbrev pub counts_in : AllRegisters → PageInput → List (Limit × ℕ)
counts_in rs i =
    (Names, length rs.named) ∷ (Line, title_length rs.title) ∷ (Store, stored i) ∷ (Names, names_added i)
    ∷ (Diversions, length i.open_texts - 1) ∷ (Stack, pushed i) ∷ (Depth, depth i) ∷ (Conditions, result_count i) ∷ []
