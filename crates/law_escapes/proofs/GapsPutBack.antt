-- Where a word's end springs a macro, a gap, a line's end or a break is put back first.
use Rattle.std.proofs.Common.{◌≡◌, Bool, true, false, List, [], ◌∷◌, ◌++◌, map, Option, Some, None, inl, inr, refl, sym, ◌∙◌, ap, subst}
use Rattle.roff_num.specs.declared.limit.Limit.{Limit}
use Rattle.roff_num.specs.declared.limits.Limits.{Limits}
use Rattle.page_model.specs.DueTexts.{TextDue}
use Rattle.input_model.specs.Input.{Ahead, DoAhead}
use Rattle.page_model.specs.declared.event.Event.TheVariants.{Print, Tab, FieldEnd, WordEnd, Gap, LineEnd, Count, Break, Interrupt as Interrupted, Resume, Set}
use Rattle.page_model.specs.Happenings.{Does}
use Rattle.page_model.specs.Springs.{goes_on}
use Rattle.page_model.specs.declared.layout_event.LayoutEvent.{LayoutEvent}
use Rattle.run_model.specs.Layouts.{layout_of}
use Rattle.run_model.specs.PageEvents.{PageEvent, PageHistory, PastEvent}
use Rattle.run_model.specs.Run.{State, grown, step_behind, step_with, text_done, unless_refused}
use Rattle.run_model.specs.Run.Counts.{first_passed}
use Rattle.run_model.specs.Springs.{begins, left_if, left_of, next, page_begin_or}
use Rattle.run_model.specs.Titles.{put_back, told}
use Rattle.run_model.specs.declared.event.PageEvent.TheVariants.{Text, Page, Interrupt, Environment, Back, InputTrap as SetsTrap, Title}
use Rattle.law_runs.specs.SpringLaws.{first_of, left_behind, with_rest_back}
use Rattle.law_runs.proofs.ComesBefore.{ComesBefore, NothingComes, FieldEndComes, PageComes, WordEndComes, comes_before}
use Rattle.law_runs.proofs.Endings.{ended_or_not, step-ended, step-going}
use Rattle.law_runs.proofs.PerformedOrStopped.{EndsOver, Performed, PerformedOrStopped, Sprang, StoppedAt, performed_or_stopped}
use Rattle.law_escapes.specs.WordEnds.{AreFollowed, BeginsWithGap, PutsBackGap, WordEndsPutBackAGap, WordEndsStayFollowed}
use Rattle.law_escapes.specs.WordsApart.{EndsOpenWord}
use Rattle.law_escapes.proofs.LinesGoOn.{back_same}

-- what is put back, in front of what stands there
abbrev put_back_ahead : List PageEvent → List (Ahead PageEvent) → List (Ahead PageEvent)
put_back_ahead events items = map DoAhead (map put_back events) ++ items

-- an event of a line in front of others
in-front : (e first : PageEvent) (others rest : List PageEvent) (s : State) → EndsOpenWord first
    → (with_rest_back e rest s).input.ahead ≡ put_back_ahead (first ∷ others) s.input.ahead → PutsBackGap e rest s
in-front e first others rest s ends is = record {
  first = first;
  behind = put_back_ahead others s.input.ahead;
  ends_word = ends;
  stands = is ∙ ap (λ (x : PageEvent). DoAhead x ∷ put_back_ahead others s.input.ahead) (back_same first ends);
}

-- a word's end springs it
at-word_end : (rest : List PageEvent) (s : State) → next s.history (Text WordEnd) ≡ None → BeginsWithGap rest → PutsBackGap (Text WordEnd) rest s
at-word_end [] s none begins = absurd begins
at-word_end (first ∷ others) s none begins =
    in-front (Text WordEnd) first others (first ∷ others) s begins
    (ap (λ (own : Option PageEvent). put_back_ahead (left_behind own (Text WordEnd) (first ∷ others) s) s.input.ahead) none)

-- what has a word's end of its own is one of these
no_own : (begins : Bool) → page_begin_or begins None ≡ Some (Text WordEnd) → ⊥
no_own true is = absurd (cc)
no_own false is = absurd (cc)

has_own : (h : PageHistory) (e : PageEvent) → next h e ≡ Some (Text WordEnd) → EndsOpenWord e
has_own h (Text (Gap n)) is = tt
has_own h (Text LineEnd) is = tt
has_own h (Text Break) is = tt
has_own h (Text (Print g)) is = absurd (no_own (begins h (Text (Print g))) is)
has_own h (Text Tab) is = absurd (no_own (begins h (Text Tab)) is)
has_own h (Text FieldEnd) is = absurd (no_own (begins h (Text FieldEnd)) is)
has_own h (Text WordEnd) is = absurd (no_own (begins h (Text WordEnd)) is)
has_own h (Text Count) is = absurd (no_own (begins h (Text Count)) is)
has_own h (Text Interrupted) is = absurd (no_own (begins h (Text Interrupted)) is)
has_own h (Text Resume) is = absurd (no_own (begins h (Text Resume)) is)
has_own h (Text (Set p)) is = absurd (no_own (begins h (Text (Set p))) is)
has_own h (Page e) is = absurd (no_own (begins h (Page e)) is)
has_own h (Title which) is = absurd (no_own (begins h (Title which)) is)
has_own h (Interrupt untold) is = absurd (no_own (begins h (Interrupt untold)) is)
has_own h (Environment number) is = absurd (no_own (begins h (Environment number)) is)
has_own h Back is = absurd (no_own (begins h Back) is)
has_own h (SetsTrap trap) is = absurd (no_own (begins h (SetsTrap trap)) is)

-- one that is itself told as a word's end is one
itself : (e : PageEvent) (rest : List PageEvent) (s : State) → next s.history e ≡ None → told s.registers e ≡ Text WordEnd → AreFollowed (e ∷ rest)
    → PutsBackGap e rest s
itself (Text WordEnd) rest s none is followed = at-word_end rest s none followed.0
itself (Text (Gap n)) rest s none is followed = absurd (cc)
itself (Text LineEnd) rest s none is followed = absurd (cc)
itself (Text Break) rest s none is followed = absurd (cc)
itself (Text (Print g)) rest s none is followed = absurd (cc)
itself (Text FieldEnd) rest s none is followed = absurd (cc)
itself (Text Tab) rest s none is followed = absurd (cc)
itself (Text Count) rest s none is followed = absurd (cc)
itself (Text Interrupted) rest s none is followed = absurd (cc)
itself (Text Resume) rest s none is followed = absurd (cc)
itself (Text (Set p)) rest s none is followed = absurd (cc)
itself (Page e) rest s none is followed = absurd (cc)
itself (Title which) rest s none is followed = absurd (cc)
itself (Interrupt untold) rest s none is followed = absurd (cc)
itself (Environment number) rest s none is followed = absurd (cc)
itself Back rest s none is followed = absurd (cc)
itself (SetsTrap trap) rest s none is followed = absurd (cc)

by_first : (e : PageEvent) (rest : List PageEvent) (s : State) (own : Option PageEvent) → next s.history e ≡ own → ComesBefore s.history e own
    → told s.registers (first_of own e) ≡ Text WordEnd → AreFollowed (e ∷ rest) → PutsBackGap e rest s
by_first e rest s own is (NothingComes none_begins) word_end followed = itself e rest s is word_end followed
by_first e rest s own is (FieldEndComes ends none_begins fewer) word_end followed = absurd (cc)
by_first e rest s own is (WordEndComes none_begins fewer) word_end followed =
    in-front e e rest rest s (has_own s.history e is)
    (ap (λ (own : Option PageEvent). put_back_ahead (left_behind own e rest s) s.input.ahead) is)
by_first e rest s own is (PageComes none_begun fewer) word_end followed = absurd (cc)

pub word_ends_put_back_a_gap : WordEndsPutBackAGap
word_ends_put_back_a_gap l s e rest name springs followed is = by_first e rest s (next s.history e) refl (comes_before s.history e) is followed

-- behind the first of them, others are as they were
rest_followed : (e : PageEvent) (rest : List PageEvent) → AreFollowed (e ∷ rest) → AreFollowed rest
rest_followed (Text WordEnd) rest followed = followed.1
rest_followed (Text (Gap n)) rest followed = followed
rest_followed (Text LineEnd) rest followed = followed
rest_followed (Text Break) rest followed = followed
rest_followed (Text (Print g)) rest followed = followed
rest_followed (Text Tab) rest followed = followed
rest_followed (Text FieldEnd) rest followed = followed
rest_followed (Text Count) rest followed = followed
rest_followed (Text Interrupted) rest followed = followed
rest_followed (Text Resume) rest followed = followed
rest_followed (Text (Set p)) rest followed = followed
rest_followed (Page e) rest followed = followed
rest_followed (Title which) rest followed = followed
rest_followed (Interrupt untold) rest followed = followed
rest_followed (Environment number) rest followed = followed
rest_followed Back rest followed = followed
rest_followed (SetsTrap trap) rest followed = followed

-- and so are they behind an eject that goes on
goes_on-followed : (goes : Bool) (e : LayoutEvent) (rest : List PageEvent) → AreFollowed rest → AreFollowed (left_if goes e ++ rest)
goes_on-followed true e rest followed = followed
goes_on-followed false e rest followed = followed

left_of-followed : (h : PageHistory) (x : PastEvent) (rest : List PageEvent) → AreFollowed rest → AreFollowed (left_of h x ++ rest)
left_of-followed h (Page e) rest followed = goes_on-followed (goes_on (Does e) (layout_of h)) e rest followed
left_of-followed h (Text e) rest followed = followed
left_of-followed h (Title title) rest followed = followed
left_of-followed h (Interrupt untold) rest followed = followed
left_of-followed h (Environment number) rest followed = followed
left_of-followed h Back rest followed = followed
left_of-followed h (SetsTrap trap) rest followed = followed

left_followed : (own : Option PageEvent) (e : PageEvent) (rest : List PageEvent) (s : State) → AreFollowed (e ∷ rest) → AreFollowed (left_behind own e rest s)
left_followed None e rest s followed = left_of-followed s.history (told s.registers e) rest (rest_followed e rest followed)
left_followed (Some own) e rest s followed = followed

stay-performed : (l : Limits) (x : PageEvent) (left : List PageEvent) (s t : State) → PerformedOrStopped l x left s t → AreFollowed left
    → AreFollowed s.to_do → AreFollowed t.to_do
stay-performed l x left s t (Performed allowed on none) followed before = followed
stay-performed l x left s t (Sprang name allowed on some) followed before = tt
stay-performed l x left s t (EndsOver allowed over) followed before = before
stay-performed l x left s t (StoppedAt limit) followed before = before

-- what is left to do stays where the text of a diversion changes
stay-refused : (l : Limits) (r : Option Limit) (due : TextDue) (s : State) → AreFollowed s.to_do
    → AreFollowed (unless_refused l r s (text_done due s)).to_do
stay-refused l None due s followed = followed
stay-refused l (Some limit) due s followed = followed

stay-behind : (l : Limits) (due : Option TextDue) (s : State) (e : PageEvent) (rest : List PageEvent) → s.to_do ≡ e ∷ rest
    → AreFollowed (e ∷ rest) → AreFollowed s.to_do → AreFollowed (step_behind l due s).to_do
stay-behind l None s e rest first followed before =
    let own : Option PageEvent = next s.history e in
    subst (λ (es : List PageEvent). AreFollowed (step_with l es s).to_do) (sym first)
    (stay-performed l (first_of own e) (left_behind own e rest s) s _ (performed_or_stopped l own e rest s)
    (left_followed own e rest s followed) before)
stay-behind l (Some due) s e rest first followed before = stay-refused l (first_passed l (grown (text_done due s))) due s before

pub word_ends_stay_followed : WordEndsStayFollowed
word_ends_stay_followed l s e rest first followed =
    let before : AreFollowed s.to_do = subst AreFollowed (sym first) followed in
    elim (ended_or_not s.ended) [
      | inl ended ↦ subst (λ (t : State). AreFollowed t.to_do) (sym (step-ended l s ended)) before
      | inr going ↦
          subst (λ (t : State). AreFollowed t.to_do) (sym (step-going l s going))
          (stay-behind l s.follows.text s e rest first followed before)
    ]
