-- Arguments of which only those are there that are kept.
use Rattle.std.proofs.Common.{◌≡◌, ℕ, ◌+◌, Bool, true, false, List, [], ◌∷◌, ◌++◌, length, refl, sym, ◌∙◌, ap, arith, zero-add, add_assoc, ◌||◌, not, reverse, nat_lt, if◌then◌else◌, ◌==◌, eqb-true, ne_eqb}
use Rattle.std.proofs.lemmas.List.{length-reverse, reverse-reverse, reverse-append}
use Rattle.input_model.specs.Arguments.{Arguments, with_byte, with_byte_at, with_argument_byte, with_two_bytes, with_kept, with_unit, with_whole, between, settled_at, settled, finished_at, finished, total_length, held, has_byte, kept_by_place, kept, only_kept, is_held}
use Rattle.input_source.specs.Bytes.{blank, quote, backslash}
use Rattle.input_model.specs.declared.place.Place.{Place}
use Rattle.input_model.specs.declared.place.Place.TheVariants.{Between, InPlain, InQuotes, BehindQuote}
use Rattle.input_escapes.specs.declared.open_escape.CopyUnit.{CopyUnit}
use Rattle.input_escapes.specs.declared.open_escape.CopyUnit.TheVariants.{Byte, Kept}
use Rattle.input_model.proofs.KeptTexts.{if_kept, kept_behind-append, kept_behind-kept_behind, nat_lt-kept_behind, total_length-kept_behind}

-- the newest is the last
pub reverse-cons : {A : Type 0} (x : A) (xs : List A) → reverse (x ∷ xs) ≡ reverse xs ++ x ∷ []
reverse-cons x xs = reverse-append (x ∷ []) xs

-- one text more behind those that are kept
kept-append-kept : (texts : List (List ℕ)) (text : List ℕ) → kept (kept texts ++ text ∷ []) ≡ kept (texts ++ text ∷ [])
kept-append-kept texts text =
    kept_behind-append kept_by_place (kept texts) text
    ∙ ap (λ (front : List (List ℕ)). front ++ if_kept (nat_lt (length (kept texts)) kept_by_place || has_byte text) text) (kept_behind-kept_behind kept_by_place texts)
    ∙ ap (λ (is : Bool). kept texts ++ if_kept (is || has_byte text) text) (nat_lt-kept_behind kept_by_place texts)
    ∙ sym (kept_behind-append kept_by_place texts text)

-- whole arguments in order, and the rest
abbrev with_texts : List (List ℕ) → List ℕ → Place → Arguments
with_texts texts begun place = record { whole = reverse texts; begun = begun; place = place }

-- those that are kept are kept again
pub only_kept-only_kept : (a : Arguments) → only_kept (only_kept a) ≡ only_kept a
only_kept-only_kept a =
    let again : kept (reverse (reverse (kept (reverse a.whole)))) ≡ kept (reverse a.whole) =
    ap kept (reverse-reverse (kept (reverse a.whole))) ∙ kept_behind-kept_behind kept_by_place (reverse a.whole) in
    ap (λ (texts : List (List ℕ)). with_texts texts a.begun a.place) again

-- what is kept behind an event depends on what is kept before it
only_kept-with_whole : (a : Arguments) → only_kept (with_whole (only_kept a)) ≡ only_kept (with_whole a)
only_kept-with_whole a =
    let text : List ℕ = reverse a.begun in
    let texts : List (List ℕ) = reverse a.whole in
    ap (λ (all : List (List ℕ)). with_texts (kept all) [] Between)
    (reverse-cons text (reverse (kept texts)) ∙ ap (λ (front : List (List ℕ)). front ++ text ∷ []) (reverse-reverse (kept texts)))
    ∙ ap (λ (all : List (List ℕ)). with_texts all [] Between) (kept-append-kept texts text)
    ∙ ap (λ (all : List (List ℕ)). with_texts (kept all) [] Between) (sym (reverse-cons text a.whole))

only_kept-if : (is : Bool) (a b c d : Arguments) → only_kept a ≡ only_kept c → only_kept b ≡ only_kept d
    → only_kept (if is then a else b) ≡ only_kept (if is then c else d)
only_kept-if true a b c d first second = first
only_kept-if false a b c d first second = second

only_kept-between : (a : Arguments) (b : ℕ) → only_kept (between (only_kept a) b) ≡ only_kept (between a b)
only_kept-between a b =
    only_kept-if (b == blank) (only_kept a) _ a _ (only_kept-only_kept a)
    (only_kept-if (b == quote) (record (only_kept a) { place = InQuotes }) _ (record a { place = InQuotes }) _
    (only_kept-only_kept (record a { place = InQuotes }))
    (only_kept-only_kept (with_byte a InPlain b)))

only_kept-with_byte_at : (place : Place) (a : Arguments) (b : ℕ)
    → only_kept (with_byte_at place (only_kept a) b) ≡ only_kept (with_byte_at place a b)
only_kept-with_byte_at Between a b = only_kept-between a b
only_kept-with_byte_at InPlain a b =
    only_kept-if (b == blank) (with_whole (only_kept a)) _ (with_whole a) _ (only_kept-with_whole a) (only_kept-only_kept (with_byte a InPlain b))
only_kept-with_byte_at InQuotes a b =
    only_kept-if (b == quote) (record (only_kept a) { place = BehindQuote }) _ (record a { place = BehindQuote }) _
    (only_kept-only_kept (record a { place = BehindQuote }))
    (only_kept-only_kept (with_byte a InQuotes b))
only_kept-with_byte_at BehindQuote a b =
    only_kept-if (b == quote) (with_byte (only_kept a) InQuotes b) _ (with_byte a InQuotes b) _
    (only_kept-only_kept (with_byte a InQuotes b))
    (sym (only_kept-between (with_whole (only_kept a)) b)
    ∙ ap (λ (w : Arguments). only_kept (between w b)) (only_kept-with_whole a)
    ∙ only_kept-between (with_whole a) b)

only_kept-settled_at : (place : Place) (a : Arguments) → only_kept (settled_at place (only_kept a)) ≡ only_kept (settled_at place a)
only_kept-settled_at Between a = only_kept-only_kept a
only_kept-settled_at InPlain a = only_kept-only_kept a
only_kept-settled_at InQuotes a = only_kept-only_kept a
only_kept-settled_at BehindQuote a = only_kept-with_whole a

pub only_kept-settled : (a : Arguments) → only_kept (settled (only_kept a)) ≡ only_kept (settled a)
only_kept-settled a = only_kept-settled_at a.place a

only_kept-finished_at : (place : Place) (a : Arguments) → only_kept (finished_at place (only_kept a)) ≡ only_kept (finished_at place a)
only_kept-finished_at Between a = only_kept-only_kept a
only_kept-finished_at InPlain a = only_kept-with_whole a
only_kept-finished_at InQuotes a = only_kept-with_whole a
only_kept-finished_at BehindQuote a = only_kept-with_whole a

pub only_kept-finished : (a : Arguments) → only_kept (finished (only_kept a)) ≡ only_kept (finished a)
only_kept-finished a = only_kept-finished_at a.place a

pub only_kept-with_unit : (a : Arguments) (unit : CopyUnit) → only_kept (with_unit (only_kept a) unit) ≡ only_kept (with_unit a unit)
only_kept-with_unit a (Byte b) = only_kept-with_byte_at a.place a b
only_kept-with_unit a (Kept b) = ap (λ (s : Arguments). with_two_bytes s backslash b) (only_kept-settled a)

-- bytes of texts, from the other end
total_length-append : (texts more : List (List ℕ)) → total_length (texts ++ more) ≡ total_length texts + total_length more
total_length-append [] more = sym (zero-add (total_length more))
total_length-append (t ∷ texts) more = ap (λ bytes. length t + bytes) (total_length-append texts more) ∙ sym (add_assoc (length t) (total_length texts) (total_length more))

pub total_length-reverse : (texts : List (List ℕ)) → total_length (reverse texts) ≡ total_length texts
total_length-reverse [] = refl
total_length-reverse (t ∷ texts) =
    ap total_length (reverse-cons t texts) ∙ total_length-append (reverse texts) (t ∷ [])
    ∙ omega (arith, total_length-reverse texts)

-- what isn't kept holds no bytes
pub held-only_kept : (a : Arguments) → held (only_kept a) ≡ held a
held-only_kept a =
    ap (λ bytes. bytes + length a.begun)
    (total_length-reverse (kept (reverse a.whole)) ∙ total_length-kept_behind kept_by_place (reverse a.whole) ∙ total_length-reverse a.whole)

-- the bytes behind events
held-with_whole : (a : Arguments) → held (with_whole a) ≡ held a
held-with_whole a = omega (arith, length-reverse a.begun)

held-by : (is : Bool) (a : Arguments) (place : Place) (b : ℕ) (none : Arguments) → held none ≡ held a
    → held (if is then none else with_byte a place b) ≡ held a + (if not is then 1 else 0)
held-by true a place b none same = omega (arith, same)
held-by false a place b none same = omega arith

held-by_two : (is_blank is_quote : Bool) (a : Arguments) (b : ℕ)
    → held (if is_blank then a else if is_quote then record a { place = InQuotes } else with_byte a InPlain b)
    ≡ held a + (if not (is_blank || is_quote) then 1 else 0)
held-by_two true is_quote a b = omega arith
held-by_two false is_quote a b = held-by is_quote a InPlain b (record a { place = InQuotes }) refl

held-between : (a : Arguments) (b : ℕ) → held (between a b) ≡ held a + (if is_held Between b then 1 else 0)
held-between a b = held-by_two (b == blank) (b == quote) a b

held-behind_quote : (a : Arguments) (b : ℕ) (is : Bool) → (b == quote) ≡ is
    → held (if is then with_byte a InQuotes b else between (with_whole a) b) ≡ held a + (if not (b == blank) then 1 else 0)
held-behind_quote a b true is = rw (eqb-true b quote is) (omega arith)
held-behind_quote a b false is =
    rw is (held-by (b == blank) (with_whole a) InPlain b (with_whole a) refl ∙ ap (λ bytes. bytes + (if not (b == blank) then 1 else 0)) (held-with_whole a))

held-with_byte_at : (place : Place) (a : Arguments) (b : ℕ) → held (with_byte_at place a b) ≡ held a + (if is_held place b then 1 else 0)
held-with_byte_at Between a b = held-between a b
held-with_byte_at InPlain a b = held-by (b == blank) a InPlain b (with_whole a) (held-with_whole a)
held-with_byte_at InQuotes a b = held-by (b == quote) a InQuotes b (record a { place = BehindQuote }) refl
held-with_byte_at BehindQuote a b = held-behind_quote a b (b == quote) refl

pub held-with_argument_byte : (a : Arguments) (b : ℕ) → held (with_argument_byte a b) ≡ held a + (if is_held a.place b then 1 else 0)
held-with_argument_byte a b = held-with_byte_at a.place a b

held-settled_at : (place : Place) (a : Arguments) → held (settled_at place a) ≡ held a
held-settled_at Between a = refl
held-settled_at InPlain a = refl
held-settled_at InQuotes a = refl
held-settled_at BehindQuote a = held-with_whole a

pub held-settled : (a : Arguments) → held (settled a) ≡ held a
held-settled a = held-settled_at a.place a

held-finished_at : (place : Place) (a : Arguments) → held (finished_at place a) ≡ held a
held-finished_at Between a = refl
held-finished_at InPlain a = held-with_whole a
held-finished_at InQuotes a = held-with_whole a
held-finished_at BehindQuote a = held-with_whole a

pub held-finished : (a : Arguments) → held (finished a) ≡ held a
held-finished a = held-finished_at a.place a

pub held-with_kept : (a : Arguments) (b : ℕ) → held (with_kept a b) ≡ held a + 2
held-with_kept a b = omega (arith, held-settled a)

-- events that do the same wherever the reading stands but at one place
pub settled_at-other : (place : Place) (a : Arguments) → (place ≡ BehindQuote → ⊥) → settled_at place a ≡ a
settled_at-other Between a other = refl
settled_at-other InPlain a other = refl
settled_at-other InQuotes a other = refl
settled_at-other BehindQuote a other = absurd (other refl)

pub finished_at-other : (place : Place) (a : Arguments) → (place ≡ Between → ⊥) → finished_at place a ≡ with_whole a
finished_at-other Between a other = absurd (other refl)
finished_at-other InPlain a other = refl
finished_at-other InQuotes a other = refl
finished_at-other BehindQuote a other = refl

-- a byte behind a quote that is neither a blank nor a quote begins an argument
pub held-behind_whole : (a : Arguments) (b : ℕ) → a.place ≡ BehindQuote → (b ≡ blank → ⊥)
    → held (with_argument_byte a b) ≡ held (only_kept (with_whole a)) + 1
held-behind_whole a b behind other =
    let holds : is_held a.place b ≡ true = ap (λ (place : Place). is_held place b) behind ∙ ap not (ne_eqb b blank other) in
    held-with_argument_byte a b ∙ ap (λ (is : Bool). held a + (if is then 1 else 0)) holds
    ∙ ap (λ bytes. bytes + 1) (sym (held-only_kept (with_whole a) ∙ held-with_whole a))
