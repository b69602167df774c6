-- Names that are removed one after another, by the arguments that give them.
use Rattle.std.proofs.Common.{◌≡◌, ℕ, ◌+◌, List, [], ◌∷◌, ◌++◌, take, slice_get, Option, Some, None, refl, sym, ap, ◌∙◌, add-one, reverse}
use Rattle.std.proofs.lemmas.List.{map-append}
use Rattle.roff_num.specs.Names.{name_of}
use Rattle.input_model.specs.Arguments.{Arguments}
use Rattle.input_model.specs.Input.Names.{calling}
use Rattle.roff_store.specs.TextCalls.{Call, Remove}
use Rattle.run_model.specs.Reading.Items.{PageUnread, PageInput}
use Rattle.run_model.specs.Reading.Arguments.{calling_all}
use Rattle.read_names.specs.NamesGiven.{name_in}
use Rattle.run_model.specs.Requests.Naming.{removals}
use Rattle.run_model.specs.Requests.Numbering.{name_given, names_given}
use Rattle.read_names.proofs.GivenNames.{named_by, names_given-next, not_named, take_past}

-- calls on names leave the arguments, and go on with others in their place
arguments-calling_all : (calls : List Call) (i : PageInput) → (calling_all calls i).arguments ≡ i.arguments
arguments-calling_all [] i = refl
arguments-calling_all (call ∷ calls) i = arguments-calling_all calls (calling call i)

pub calling_all-arguments : (calls : List Call) (arguments : Arguments) (i : PageInput)
    → calling_all calls (record i { arguments = arguments }) ≡ record (calling_all calls i) { arguments = arguments }
calling_all-arguments [] arguments i = refl
calling_all-arguments (call ∷ calls) arguments i = calling_all-arguments calls arguments (calling call i)

-- some calls and then others
calling_all-append : (calls others : List Call) (i : PageInput) → calling_all (calls ++ others) i ≡ calling_all others (calling_all calls i)
calling_all-append [] others i = refl
calling_all-append (call ∷ calls) others i = calling_all-append calls others (calling call i)

-- the input without what these names stand for
abbrev pub without_names : List (List ℕ) → PageInput → PageInput
without_names names i = calling_all (removals names) i

-- the unread input without what the first so many arguments name
abbrev pub IsWithoutNames : ℕ → List (List ℕ) → PageUnread → PageUnread → Type 0
IsWithoutNames n texts old now = now ≡ record old { input = without_names (names_given (take n texts)) old.input }

-- some names go, and then more
without_names-append : (names others : List (List ℕ)) (i : PageInput) → without_names (names ++ others) i ≡ without_names others (without_names names i)
without_names-append names others i =
    ap (λ (calls : List Call). calling_all calls i) (map-append (λ (name : List ℕ). Remove name) names others) ∙ calling_all-append (removals names) (removals others) i

-- the names behind one argument more
names-next : (n : ℕ) (texts : List (List ℕ)) (text : List ℕ) (names : List (List ℕ)) → slice_get texts n ≡ Some text → names_given (text ∷ []) ≡ names
    → names_given (take (n + 1) texts) ≡ names_given (take n texts) ++ names
names-next n texts text names is given =
    ap (λ m. names_given (take m texts)) (add-one n) ∙ names_given-next n texts text is ∙ ap (λ one. names_given (take n texts) ++ one) given

-- and the arguments are there as before
pub texts_stay : (n : ℕ) (texts : List (List ℕ)) (old now : PageUnread) → IsWithoutNames n texts old now → reverse now.input.arguments.whole ≡ reverse old.input.arguments.whole
texts_stay n texts old now removed =
    let same : now.input.arguments ≡ old.input.arguments = ap (λ (u : PageUnread). u.input.arguments) removed ∙ arguments-calling_all (removals (names_given (take n texts))) old.input in
    ap (λ (a : Arguments). reverse a.whole) same

module _ (n : ℕ) (texts : List (List ℕ)) (old now : PageUnread) (removed : IsWithoutNames n texts old now) where
  -- so it is behind one argument more, whatever it gives
  behind_next : (text : List ℕ) (names : List (List ℕ)) (behind : PageUnread) → slice_get texts n ≡ Some text → names_given (text ∷ []) ≡ names
      → behind ≡ record now { input = without_names names now.input } → IsWithoutNames (n + 1) texts old behind
  behind_next text names behind is given goes =
      goes
      ∙ ap (λ (u : PageUnread). (let left : PageUnread = record u { input = without_names names u.input } in left)) removed
      ∙ ap (λ (i : PageInput). (let left : PageUnread = record old { input = i } in left))
      (sym (ap (λ (all : List (List ℕ)). without_names all old.input) (names-next n texts text names is given) ∙ without_names-append (names_given (take n texts)) names old.input))

  -- one that gives a name
  without_named : (text name : List ℕ) (behind : PageUnread) → slice_get texts n ≡ Some text → name_of (name_given text) ≡ Some name
      → behind ≡ record now { input = calling (Remove name) now.input } → IsWithoutNames (n + 1) texts old behind
  without_named text name behind is named goes = behind_next text (name ∷ []) behind is (named_by text name named) goes

  -- one that gives none
  without_unnamed : (text : List ℕ) → slice_get texts n ≡ Some text → name_of (name_given text) ≡ None → IsWithoutNames (n + 1) texts old now
  without_unnamed text is unnamed = behind_next text [] now is (not_named text unnamed) refl

  -- and where there is none
  without_past : slice_get texts n ≡ None → IsWithoutNames (n + 1) texts old now
  without_past past =
      removed ∙ ap (λ (some : List (List ℕ)). (let left : PageUnread = record old { input = without_names (names_given some) old.input } in left))
      (sym (ap (λ m. take m texts) (add-one n) ∙ take_past n texts past))

  -- by what an argument gives, if there is one
  pub without_none : (argument : Option (List ℕ)) → slice_get texts n ≡ argument → name_in argument ≡ None → IsWithoutNames (n + 1) texts old now
  without_none None is none = without_past is
  without_none (Some text) is none = without_unnamed text is none

  pub without_one : (argument : Option (List ℕ)) (name : List ℕ) (behind : PageUnread) → slice_get texts n ≡ argument → name_in argument ≡ Some name
      → behind ≡ record now { input = calling (Remove name) now.input } → IsWithoutNames (n + 1) texts old behind
  without_one None name behind is named goes = cc
  without_one (Some text) name behind is named goes = without_named text name behind is named goes
