-- What is half read and ends before something that can't be seen leads to no condition where none was read, and no event is left.
use Rattle.std.proofs.Common.{◌≡◌, ◌⊎◌, inl, inr, ℕ, ◌-◌, Bool, true, false, List, [], ◌∷◌, Option, Some, None, refl, sym, subst, arith, ◌&&◌, ◌==◌, if◌then◌else◌, nat_le}
use Rattle.input_model.specs.Input.{Ahead}
use Rattle.input_model.specs.Input.Few.{AreFewFrom}
use Rattle.input_model.proofs.FewEvents.{few-more}
use Rattle.input_source.specs.Bytes.{newline, backslash}
use Rattle.input_escapes.specs.OpenEscape.{OpenEscape, Backslash, Comment, Name as NameHalf, Size, Delimited, Width, Condition}
use Rattle.input_escapes.specs.OpenEscapes.{byte_read, escape_given, reading_ended}
use Rattle.input_escapes.specs.Waiting.{is_ended_by, takes_backslash_alone}
use Rattle.input_escapes.specs.declared.open_escape.ConditionPart.TheVariants.{Choice, Expression, Compared, Decided}
use Rattle.input_escapes.specs.declared.open_escape.Decision.{Decision}
use Rattle.input_escapes.specs.declared.open_escape.Found.TheVariants.{Decides}
use Rattle.input_escapes.specs.declared.open_escape.SizePart.{SizePart}
use Rattle.run_events.specs.Formatter.Sprung.{most_back}
use Rattle.run_items.specs.Room.{FewFor, decides_next}
use Rattle.run_events.proofs.EventsLeft.{quiet-none}
use Rattle.run_items.proofs.Fronts.{few-over}
use Rattle.run_model.specs.PageEvents.{PageEvent}
use Rattle.run_model.specs.Reading.{escape_ended}
use Rattle.run_model.specs.Reading.Beginnings.{at_start}
use Rattle.run_model.specs.Reading.Branches.{decided, is_so, with_result_if}
use Rattle.run_model.specs.Reading.Found.{found_in, place_in, read_in}
use Rattle.run_model.specs.Reading.Items.{PageInput, Taking}
use Rattle.run_model.specs.Registers.{Known}
use Rattle.run_model.specs.declared.line_state.LineState.{LineState}
use Rattle.run_model.specs.declared.line_state.LineState.TheVariants.{LineStart, Branch, Braced, Text as InText, Control, Name, Deciding, Skipping, Dropped, Told, Exiting, TitleFront, Title as InTitle, Collecting}
use Rattle.run_model.specs.declared.purpose.Purpose.TheVariants.{Arguments as InArguments, StringName, StringText, Telling, Calling, Defining}
use Rattle.run_model.proofs.MeantEvents.{NoCondition, told-over}
use Rattle.run_model.proofs.TextEvents.{Tells-beginning_found}
use Rattle.run_model.proofs.UnseenEnds.{NoneSprings, quiet-unseen}

-- a condition is read, or none is
abbrev IsCondition : LineState → Type 0
IsCondition reading = (keeps : Bool) × (reading ≡ Deciding keeps)

is_condition : (reading : LineState) → NoCondition reading ⊎ IsCondition reading
is_condition LineStart = inl tt
is_condition Branch = inl tt
is_condition Braced = inl tt
is_condition (InText line) = inl tt
is_condition (Control breaks) = inl tt
is_condition (Name breaks first) = inl tt
is_condition (Collecting purpose) = inl tt
is_condition (Deciding keeps) = inr (keeps, refl)
is_condition (Skipping opened closed behind) = inl tt
is_condition Dropped = inl tt
is_condition (Told aborts) = inl tt
is_condition Exiting = inl tt
is_condition TitleFront = inl tt
is_condition (InTitle delimiter) = inl tt

-- where a condition is read that is next behind it which was next before
next-size : (k : Known) (i : PageInput) (keeps : Bool) (rest : List OpenEscape) → decides_next (read_in k (Deciding keeps) i (escape_given rest 115)).input.escapes ≡ true
    → decides_next rest ≡ true
next-size k i keeps [] next = next
next-size k i keeps (Width d width is_deep ∷ rest) next = absurd (cc)
next-size k i keeps (Backslash ∷ rest) next = next
next-size k i keeps (Comment ∷ rest) next = next
next-size k i keeps (NameHalf purpose part ∷ rest) next = next
next-size k i keeps (Size part ∷ rest) next = next
next-size k i keeps (Delimited purpose d text ∷ rest) next = next
next-size k i keeps (Condition part text ∷ rest) next = next

-- no event may be left of what means none that springs a macro
few-quietly : (events : List PageEvent) (items : List (Ahead PageEvent)) → NoneSprings events → AreFewFrom 5 items → AreFewFrom (5 - most_back events) items
few-quietly events items quiet few = few-more 5 (5 - most_back events) items (omega (arith, quiet-none events quiet)) few

few-size : (k : Known) (i : PageInput) (reading : LineState) (part : SizePart) (rest : List OpenEscape) (items : List (Ahead PageEvent)) → FewFor [] reading (Size part ∷ rest) items
    → let t : Taking = read_in k reading i (escape_given rest 115) in FewFor t.effect.events t.reading t.input.escapes items
few-size k i reading part rest items few =
    let t : Taking = read_in k reading i (escape_given rest 115) in
    let unseen = quiet-unseen k reading (record i { escapes = Size part ∷ rest }) refl tt in
    let quiet : NoneSprings t.effect.events = unseen.0 in
    elim (is_condition reading) [
      | inl over ↦ few-over t.effect.events t.reading t.input.escapes items (few-quietly t.effect.events items quiet few.few) (unseen.1 over)
      | inr found ↦ record {
        few = few-quietly t.effect.events items quiet few.few;
        decided = λ keeps is next.
            let same : decides_next rest ≡ true =
            next-size k i found.0 rest (subst (λ (r : LineState). decides_next (read_in k r i (escape_given rest 115)).input.escapes ≡ true) found.1 next) in
            ((few.decided found.0 found.1 same).0, quiet-none t.effect.events quiet);
      }
    ]

-- a condition that decided does, where one is read
over-if : (b : Bool) (t u : Taking) → NoCondition t.reading → NoCondition u.reading → NoCondition (if b then t else u).reading
over-if true t u first second = first
over-if false t u first second = second

over-decided : (k : Known) (i : PageInput) (so : Bool) (freed : Option ℕ) → NoCondition (decided k i so freed).reading
over-decided k i true None = tt
over-decided k i false None = tt
over-decided k i true (Some b) =
    let read = byte_read (at_start k) i.escapes b in
    told-over Branch _ _ (Tells-beginning_found k (record i { escapes = read.1 }) Branch read.0).0 tt
over-decided k i false (Some b) = over-if (b == backslash) _ _ tt (over-if (b == newline && nat_le 0 0) _ _ tt tt)

-- and elsewhere nothing is done
abbrev DoesNothing : Taking → Type 0
DoesNothing t = NoneSprings t.effect.events × NoCondition t.reading

nothing-decides : (k : Known) (i : PageInput) (reading : LineState) (decision : Decision) (freed : Option ℕ) → NoCondition reading → DoesNothing (found_in k i reading (Decides decision freed))
nothing-decides k i LineStart decision freed over = (tt, tt)
nothing-decides k i Branch decision freed over = (tt, tt)
nothing-decides k i Braced decision freed over = (tt, tt)
nothing-decides k i (InText line) decision freed over = (tt, tt)
nothing-decides k i (Control breaks) decision freed over = (tt, tt)
nothing-decides k i (Name breaks first) decision freed over = (tt, tt)
nothing-decides k i (Collecting (InArguments breaks request)) decision freed over = (tt, tt)
nothing-decides k i (Deciding keeps) decision freed over = absurd over
nothing-decides k i (Collecting (StringName appends)) decision freed over = (tt, tt)
nothing-decides k i (Collecting (StringText name appends is_front)) decision freed over = (tt, tt)
nothing-decides k i (Skipping opened closed behind) decision freed over = (tt, tt)
nothing-decides k i Dropped decision freed over = (tt, tt)
nothing-decides k i (Collecting (Telling aborts is_front)) decision freed over = (tt, tt)
nothing-decides k i (Told aborts) decision freed over = (tt, tt)
nothing-decides k i Exiting decision freed over = (tt, tt)
nothing-decides k i (Collecting (Calling name)) decision freed over = (tt, tt)
nothing-decides k i (Collecting (Defining name appends end matched)) decision freed over = (tt, tt)
nothing-decides k i TitleFront decision freed over = (tt, tt)
nothing-decides k i (InTitle delimiter) decision freed over = (tt, tt)

few-decides : (k : Known) (i : PageInput) (reading : LineState) (decision : Decision) (freed : Option ℕ) (text : List ℕ) (rest : List OpenEscape) (items : List (Ahead PageEvent))
    → FewFor [] reading (Condition (Decided decision freed) text ∷ rest) items
    → let t : Taking = read_in k reading i (Decides decision freed, rest) in FewFor t.effect.events t.reading t.input.escapes items
few-decides k i reading decision freed text rest items few =
    let j : PageInput = record i { escapes = rest } in
    let P : LineState → Type 0 = λ r. let t : Taking = found_in k j r (Decides decision freed) in FewFor t.effect.events t.reading t.input.escapes items in
    elim (is_condition reading) [
      | inl over ↦ (let none = nothing-decides k j reading decision freed over in few-over _ _ _ items (few-quietly _ items none.0 few.few) none.1)
      | inr found ↦ subst P (sym found.1)
          (few-over _ _ _ items (few-more 0 _ items (omega arith) (few.decided found.0 found.1 refl).0)
          (over-decided k (with_result_if found.0 (is_so k decision) j) (is_so k decision) freed))
    ]

-- a backslash doesn't end
not_alone : (alone : Bool) → (alone && false) ≡ true → ⊥
not_alone true is = absurd (cc)
not_alone false is = absurd (cc)

few-unseen_half : (k : Known) (i : PageInput) (reading : LineState) (half : List OpenEscape) (items : List (Ahead PageEvent)) → is_ended_by half None ≡ true → FewFor [] reading half items
    → let t : Taking = read_in k reading i (reading_ended (place_in k reading) half) in FewFor t.effect.events t.reading t.input.escapes items
few-unseen_half k i reading [] items ends few = absurd (cc)
few-unseen_half k i reading (Backslash ∷ rest) items ends few = absurd (not_alone (takes_backslash_alone rest) ends)
few-unseen_half k i reading (Comment ∷ rest) items ends few = absurd (cc)
few-unseen_half k i reading (NameHalf purpose part ∷ rest) items ends few = absurd (cc)
few-unseen_half k i reading (Size part ∷ rest) items ends few = few-size k i reading part rest items few
few-unseen_half k i reading (Delimited purpose d text ∷ rest) items ends few = absurd (cc)
few-unseen_half k i reading (Width d width is_deep ∷ rest) items ends few = absurd (cc)
few-unseen_half k i reading (Condition (Choice negated) text ∷ rest) items ends few = absurd (cc)
few-unseen_half k i reading (Condition (Expression negated) text ∷ rest) items ends few = absurd (cc)
few-unseen_half k i reading (Condition (Compared negated d first) text ∷ rest) items ends few = absurd (cc)
few-unseen_half k i reading (Condition (Decided decision freed) text ∷ rest) items ends few = few-decides k i reading decision freed text rest items few

-- there is room for what is left of what ends so
pub few-unseen : (k : Known) (reading : LineState) (i : PageInput) → is_ended_by i.escapes None ≡ true → FewFor [] reading i.escapes i.ahead
    → let t : Taking = escape_ended k reading i in FewFor t.effect.events t.reading t.input.escapes i.ahead
few-unseen k reading i ends few = few-unseen_half k i reading i.escapes i.ahead ends few
