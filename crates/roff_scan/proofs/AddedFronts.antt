-- Bytes of plain text of the source that are put behind the newest text in the making at once.
use Rattle.std.proofs.Common.{◌≡◌, ℕ, ◌+◌, ◌≤◌, ◌<◌, true, List, [], ◌∷◌, ◌++◌, length, take, take_while, get_or, Option, Some, None, Ok, refl, sym, ap, subst, ◌∙◌, append_assoc, arith, Result, set, sum_by, append-nil, get_or-set_same, length-append, length-set, set-set}
use Rattle.std.specs.List.{AllByRecursion, prefix_len}
use Rattle.std.proofs.lemmas.List.Folds.{length-prefix_len}
use Rattle.std.proofs.lemmas.List.{set-get_or}
use Rattle.std.proofs.lemmas.List.Sums.{sum_by-set}
use Rattle.roff_num.specs.declared.limit.Limit.{Limit}
use Rattle.input_source.specs.Bytes.{is_text_byte}
use Rattle.input_model.specs.Input.{Input, is_none_ahead}
use Rattle.input_model.specs.Input.Names.{adding, calling_on, stored}
use Rattle.input_source.specs.Tape.{Tape}
use Rattle.input_model.specs.declared.looked.Looked.TheVariants.{Nothing}
use Rattle.input_model.specs.Unread.{Unread, IsWithin, changing, input_refusal, unless_passed}
use Rattle.roff_scan.specs.Unread.Calls.{IsFront, NoNewline, OfSource, PassesFront, PassesSource, front_bytes}
use Rattle.roff_scan.specs.Unread.Runs.{TakesRun, room_for}
use Rattle.roff_scan.specs.declared.run_kind.RunKind.TheVariants.{Definition}
use Rattle.roff_scan.proofs.Changing.{OthersWithin, changing_within}
use Rattle.roff_scan.proofs.RunKinds.{no_bound, no_newline_of}
use Rattle.roff_scan.proofs.Staged.{passes-staged, stage-behind}
use Rattle.roff_scan.proofs.Fronts.{next-ready}
use Rattle.input_source.proofs.PlainBytes.{take_while-plain}
use Rattle.roff_store.specs.TextCalls.{PushOpen}
use Rattle.roff_store.specs.Texts.{newest}

-- these texts, where bytes are put behind the one with this number
abbrev pub texts_added : List ℕ → Option ℕ → List (List ℕ) → List (List ℕ)
texts_added bytes None texts = texts
texts_added bytes (Some id) texts = set texts id (get_or texts id [] ++ bytes)

-- no bytes change nothing
pub texts_added-none : (id : Option ℕ) (texts : List (List ℕ)) → texts_added [] id texts ≡ texts
texts_added-none None texts = refl
texts_added-none (Some id) texts = ap (λ (text : List ℕ). set texts id text) (append-nil (get_or texts id [])) ∙ set-get_or texts id []

-- one, and then others
added-again : (b : ℕ) (bytes : List ℕ) (id : ℕ) (texts : List (List ℕ)) → id < length texts
    → texts_added bytes (Some id) (texts_added (b ∷ []) (Some id) texts) ≡ texts_added (b ∷ bytes) (Some id) texts
added-again b bytes id texts inside =
    let text : List ℕ = get_or texts id [] in
    let one : List (List ℕ) = set texts id (text ++ b ∷ []) in
    set-set texts id (text ++ b ∷ []) (get_or one id [] ++ bytes)
    ∙ ap (λ (grown : List ℕ). set texts id (grown ++ bytes)) (get_or-set_same texts id (text ++ b ∷ []) [] inside)
    ∙ ap (set texts id) (append_assoc text (b ∷ []) bytes)

pub texts_added-again : (b : ℕ) (bytes : List ℕ) (texts : List (List ℕ))
    → texts_added bytes (newest texts) (texts_added (b ∷ []) (newest texts) texts) ≡ texts_added (b ∷ bytes) (newest texts) texts
texts_added-again b bytes [] = refl
texts_added-again b bytes (text ∷ texts) = added-again b bytes (length texts) (text ∷ texts) (omega arith)

-- as many texts are in the making
pub length-texts_added : (bytes : List ℕ) (id : Option ℕ) (texts : List (List ℕ)) → length (texts_added bytes id texts) ≡ length texts
length-texts_added bytes None texts = refl
length-texts_added bytes (Some id) texts = length-set texts id (get_or texts id [] ++ bytes)

-- and none of them is shorter
stored-added : (bytes : List ℕ) (id : ℕ) (texts : List (List ℕ)) → id < length texts → sum_by length texts ≤ sum_by length (texts_added bytes (Some id) texts)
stored-added bytes id texts inside =
    let text : List ℕ = get_or texts id [] in
    let size : List ℕ → ℕ = length in
    omega (arith, sum_by-set size texts id (text ++ bytes) [] inside, length-append text bytes)

pub stored-texts_added : (bytes : List ℕ) (texts : List (List ℕ)) → sum_by length texts ≤ sum_by length (texts_added bytes (newest texts) texts)
stored-texts_added bytes [] = omega arith
stored-texts_added bytes (text ∷ texts) = stored-added bytes (length texts) (text ∷ texts) (omega arith)

-- and all together are longer by no more than these bytes
longer-added : (bytes : List ℕ) (id : ℕ) (texts : List (List ℕ)) → id < length texts
    → sum_by length (texts_added bytes (Some id) texts) ≤ sum_by length texts + length bytes
longer-added bytes id texts inside =
    let text : List ℕ = get_or texts id [] in
    let size : List ℕ → ℕ = length in
    omega (arith, sum_by-set size texts id (text ++ bytes) [] inside, length-append text bytes)

added-most : (bytes : List ℕ) (texts : List (List ℕ)) → sum_by length (texts_added bytes (newest texts) texts) ≤ sum_by length texts + length bytes
added-most bytes [] = omega arith
added-most bytes (text ∷ texts) = longer-added bytes (length texts) (text ∷ texts) (omega arith)

-- so the newest stays the newest
newest-same : (texts others : List (List ℕ)) → length texts ≡ length others → newest texts ≡ newest others
newest-same [] [] same = refl
newest-same [] (other ∷ others) same = absurd (omega (arith, same))
newest-same (text ∷ texts) [] same = absurd (omega (arith, same))
newest-same (text ∷ texts) (other ∷ others) same = let fewer : length texts ≡ length others = omega (arith, same) in ap (λ (n : ℕ). Some n) fewer

pub newest-added : (bytes : List ℕ) (id : Option ℕ) (texts : List (List ℕ)) → newest (texts_added bytes id texts) ≡ newest texts
newest-added bytes id texts = newest-same (texts_added bytes id texts) texts (length-texts_added bytes id texts)

-- bytes of text in front
pub plain_in_front : (front text : List ℕ) (count : ℕ) → text ≡ take count front → count ≡ length (take_while is_text_byte front)
    → AllByRecursion (λ b. is_text_byte b ≡ true) text
plain_in_front front text count cut counted =
    let are : count ≡ prefix_len is_text_byte front = counted ∙ length-prefix_len is_text_byte front in
    subst (λ (xs : List ℕ). AllByRecursion (λ b. is_text_byte b ≡ true) xs) (sym cut)
    (subst (λ (n : ℕ). AllByRecursion (λ b. is_text_byte b ≡ true) (take n front)) (sym are) (take_while-plain is_text_byte front))

module _ {E : Type 0} where
  -- bytes that are added change the texts in the making alone
  adding_on-texts : (bytes : List ℕ) (id : Option ℕ) (i : Input E)
      → calling_on (λ n. PushOpen n bytes) id i ≡ record i { open_texts = texts_added bytes id i.open_texts }
  adding_on-texts bytes None i = refl
  adding_on-texts bytes (Some id) i = refl

  pub adding-texts : (bytes : List ℕ) (i : Input E) → adding bytes i ≡ record i { open_texts = texts_added bytes (newest i.open_texts) i.open_texts }
  adding-texts bytes i = adding_on-texts bytes (newest i.open_texts) i

  -- an unread input with these texts in the making
  abbrev pub with_open : List (List ℕ) → Unread E → Unread E
  with_open texts u = record u { input = record u.input { open_texts = texts } }

  -- a change that isn't refused is made
  made-allowed : (refusal : Option Limit) (i : Input E) (u new : Unread E) (r : Result (Unit {0}) Limit) → (r, new) ≡ unless_passed refusal i u → r ≡ Ok tt
      → new ≡ record u { input = i }
  made-allowed None i u new r made allowed = ap (λ (p : Result (Unit {0}) Limit × Unread E). p.1) made
  made-allowed (Some limit) i u new r made allowed = let refused = ap (λ (p : Result (Unit {0}) Limit × Unread E). p.0) made in cc

  module _ (u new : Unread E) (bytes : List ℕ) (r : Result (Unit {0}) Limit) (made : (r, new) ≡ changing (adding bytes u.input) u) where
    -- the texts behind bytes that were added
    abbrev pub grown : List (List ℕ)
    grown = texts_added bytes (newest u.input.open_texts) u.input.open_texts

    pub added-allowed : r ≡ Ok tt → new ≡ with_open grown u
    added-allowed allowed =
        made-allowed (input_refusal u.limits (adding bytes u.input)) (adding bytes u.input) u new r made allowed
        ∙ ap (λ (i : Input E). record u { input = i }) (adding-texts bytes u.input)

  -- a text that there is room for is put there, so none is refused
  pub added-ok : (u new : Unread E) (bytes : List ℕ) (r : Result (Unit {0}) Limit) → (r, new) ≡ changing (adding bytes u.input) u → IsWithin u
      → stored u.input + length bytes ≤ u.limits.store → r ≡ Ok tt
  added-ok u new bytes r made within room =
      let grown : List (List ℕ) = texts_added bytes (newest u.input.open_texts) u.input.open_texts in
      let i : Input E = record u.input { open_texts = grown } in
      let few = added-most bytes u.input.open_texts in
      let others : OthersWithin u i = record {
        charge = within.charge;
        newlines = within.newlines;
        results = within.results;
        stored = omega (arith, room, few);
        names = within.names;
        making = omega (arith, within.making, length-texts_added bytes (newest u.input.open_texts) u.input.open_texts);
      } in
      ap (λ (p : Result (Unit {0}) Limit × Unread E). p.0)
      (made ∙ ap (λ (j : Input E). changing j u) (adding-texts bytes u.input) ∙ changing_within u i others within.pushed within.depth)

  -- no bytes change nothing
  pub adding-none : (i : Input E) → (adding [] i).open_texts ≡ i.open_texts
  adding-none i = ap (λ (j : Input E). j.open_texts) (adding-texts [] i) ∙ texts_added-none (newest i.open_texts) i.open_texts

  module _ (u new : Unread E) (ready text : List ℕ) (r : Result (Unit {0}) Limit) (made : (r, new) ≡ changing (adding text u.input) u) (allowed : r ≡ Ok tt)
      (ahead : is_none_ahead u.input.ahead ≡ true) (looked : u.looked ≡ Nothing) (same : text ≡ take (length text) ready) where
    -- the texts in the making behind them
    abbrev texts : List (List ℕ)
    texts = grown u new text r made

    is_grown : new ≡ with_open texts u
    is_grown = added-allowed u new text r made allowed

    -- the bytes that were added stand in front
    pub added_in_front : length text ≤ length ready → u.input.charge + length text ≤ u.limits.bytes → IsFront (length text) ready new
    added_in_front among within =
        subst (IsFront (length text) ready) (sym is_grown)
        (record { among = omega (arith, among, ap length (next-ready u.input.ahead u.looked ready ahead looked)); within = within })

    first_added : text ≡ front_bytes (length text) ready new
    first_added =
        same ∙ ap (take (length text)) (sym (next-ready u.input.ahead u.looked ready ahead looked))
        ∙ sym (ap (front_bytes (length text) ready) is_grown)

    -- none of them is a newline
    pub added_no_newline : AllByRecursion (λ b. is_text_byte b ≡ true) text → NoNewline (front_bytes (length text) ready new)
    added_no_newline plain = subst NoNewline first_added (no_newline_of is_text_byte refl text plain)

    -- and they were added, and taken
    pub adds_run : (old gives : Tape → Type 0) (after : Unread E) → AllByRecursion (λ b. is_text_byte b ≡ true) text
        → text ≡ take_while is_text_byte (take (room_for Definition u) ready)
        → PassesSource old gives (front_bytes (length text) ready new) new after → TakesRun Definition old gives ready (length text) u after
    adds_run old gives after plain whole passed =
        let i : Input E = u.input in
        let source : PassesSource old gives text (with_open texts u) after =
        subst (λ (v : Unread E). PassesSource old gives text v after) is_grown
        (subst (λ (xs : List ℕ). PassesSource old gives xs new after) (sym first_added) passed) in
        let passes : PassesFront old gives text (with_open texts u) after = OfSource source in
        let stage = stage-behind old gives text i.escapes i.arguments texts u after passes in
        record {
          bytes = text;
          length_is = refl;
          are_of = plain;
          fewer = no_bound text i.arguments;
          passes = passes-staged old gives text i.escapes i.arguments texts u after passes;
          arguments = ap (λ (j : Input E). j.arguments) stage;
          half_read = ap (λ (j : Input E). j.escapes) stage;
          texts = ap (λ (j : Input E). j.open_texts) stage ∙ sym (ap (λ (j : Input E). j.open_texts) (adding-texts text i));
          whole = λ goes asks. whole;
        }
