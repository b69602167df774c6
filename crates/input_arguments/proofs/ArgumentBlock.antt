-- Arguments that lie in a block.
use Rattle.std.proofs.Common.{◌≡◌, ℕ, ◌+◌, ◌<◌, ◌≤◌, true, false, List, [], ◌∷◌, ◌++◌, length, drop, refl, sym, ◌∙◌, ap, arith, zero, suc, inl, inr, ◌⊎◌, length-drop, append-nil, reverse, nat_lt, ltb-true}
use Rattle.std.proofs.Math.Seq.{drop-length}
use Rattle.std.proofs.lemmas.Bool.{cases_Bool}
use Rattle.std.proofs.lemmas.Bool.Decides.{nat_tests}
use Rattle.std.proofs.lemmas.List.{drop-append-le, drop_all, length-reverse, reverse-reverse, reverse-append}
use Rattle.input_model.specs.Arguments.{Arguments, with_byte, with_whole, total_length, held, has_byte, kept_by_place, kept, only_kept}
use Rattle.roff_num.specs.Lists.{last_end, EndInOrder, parts_ending}
use Rattle.input_arguments.specs.ArgumentTexts.Ends.{is_kept}
use Rattle.input_model.specs.declared.place.Place.{Place}
use Rattle.input_model.specs.declared.place.Place.TheVariants.{Between}
use Rattle.roff_num.proofs.Lists.{last_end-append}
use Rattle.input_arguments.proofs.Ends.{EndInOrder-last, parts_ending-append_block, parts_ending-append, slice_range-rest, length-parts_ending, total_length-parts_ending}
use Rattle.input_model.proofs.KeptArguments.{reverse-cons, total_length-reverse}
use Rattle.input_model.proofs.KeptTexts.{zero-nat_lt, nat_lt-zero, suc-nat_lt, if_kept, kept_behind-append, length-kept_behind}

-- arguments in order
abbrev pub arguments_of : List (List ℕ) → List ℕ → Place → Arguments
arguments_of texts begun place = record { whole = reverse texts; begun = reverse begun; place = place }

-- the arguments that lie in a block
abbrev pub kept_in : List ℕ → List ℕ → Place → Arguments
kept_in block ends place = arguments_of (parts_ending block 0 ends) (drop (last_end 0 ends) block) place

-- they hold its bytes
pub held-kept_in : (block ends : List ℕ) (place : Place) → EndInOrder (length block) 0 ends → held (kept_in block ends place) ≡ length block
held-kept_in block ends place within =
    omega (
      arith,
      total_length-reverse (parts_ending block 0 ends),
      total_length-parts_ending block 0 ends within,
      length-reverse (drop (last_end 0 ends) block),
      length-drop (last_end 0 ends) block,
      EndInOrder-last (length block) 0 ends within,
    )

-- a byte behind the block is one of the argument being read
pub kept_in-byte : (block ends : List ℕ) (old new : Place) (b : ℕ) → EndInOrder (length block) 0 ends
    → kept_in (block ++ b ∷ []) ends new ≡ with_byte (kept_in block ends old) new b
kept_in-byte block ends old new b within =
    ap (λ (texts : List (List ℕ)). arguments_of texts (drop (last_end 0 ends) (block ++ b ∷ [])) new) (parts_ending-append_block block (b ∷ []) 0 ends within)
    ∙ ap (λ (begun : List ℕ). arguments_of (parts_ending block 0 ends) begun new) (drop-append-le (last_end 0 ends) block (b ∷ []) (EndInOrder-last (length block) 0 ends within))
    ∙ ap (λ (begun : List ℕ). let a : Arguments = record { whole = reverse (parts_ending block 0 ends); begun = begun; place = new } in a) (reverse-append (drop (last_end 0 ends) block) (b ∷ []))

-- each text of the block is to be kept
abbrev pub AllKept : List ℕ → List ℕ → Type 0
AllKept block ends = kept (parts_ending block 0 ends) ≡ parts_ending block 0 ends

-- few of them have no byte
pub few_texts : (block ends : List ℕ) → AllKept block ends
    → length (parts_ending block 0 ends) ≤ total_length (parts_ending block 0 ends) + kept_by_place
few_texts block ends all =
    let few : length (kept (parts_ending block 0 ends)) ≤ total_length (parts_ending block 0 ends) + kept_by_place =
    length-kept_behind kept_by_place (parts_ending block 0 ends) in
    rw all at few

-- bytes behind the block change no text in it
pub AllKept-append_block : (block more new ends : List ℕ) → new ≡ block ++ more → EndInOrder (length block) 0 ends → AllKept block ends → AllKept new ends
AllKept-append_block block more new ends is within all =
    let same : parts_ending new 0 ends ≡ parts_ending block 0 ends = rw is (parts_ending-append_block block more 0 ends within) in
    ap kept same ∙ all ∙ sym same

-- arguments of which each is to be kept are those that are kept
pub only_kept-kept_in : (block ends : List ℕ) (place : Place) → AllKept block ends → only_kept (kept_in block ends place) ≡ kept_in block ends place
only_kept-kept_in block ends place all =
    ap (λ (texts : List (List ℕ)). arguments_of texts (drop (last_end 0 ends) block) place) (ap kept (reverse-reverse (parts_ending block 0 ends)) ∙ all)

-- whether an argument is kept, by its place or its bytes
is_kept-cases : (ends : List ℕ) (end : ℕ) → is_kept ends end ≡ true → (length ends < kept_by_place) ⊎ (last_end 0 ends < end)
is_kept-cases ends end is = elim (cases_Bool (nat_lt (length ends) kept_by_place)) [
  | inl first ↦ inl (ltb-true (length ends) kept_by_place first)
  | inr behind ↦ inr (ltb-true (last_end 0 ends) end (rw behind at is))
]

is_kept-none : (ends : List ℕ) (end : ℕ) → is_kept ends end ≡ false → end ≤ last_end 0 ends
is_kept-none ends end is = grind (arith, nat_tests)

-- there is room for one end more where the argument is kept
pub ends_fit : (block ends : List ℕ) (room : ℕ) → EndInOrder (length block) 0 ends → AllKept block ends → length block ≤ room
    → is_kept ends (length block) ≡ true → length ends < room + 32
ends_fit block ends room within all fits is =
    let few_ends = rw length-parts_ending at (few_texts block ends all) in
    let bytes = total_length-parts_ending block 0 ends within in
    elim (is_kept-cases ends (length block) is) [
      | inl first ↦ omega (arith, first)
      | inr behind ↦ omega (arith, behind, few_ends, bytes)
    ]

-- the text behind the last end has a byte if the block has one there
has_byte-drop : (from : ℕ) (block : List ℕ) → has_byte (drop from block) ≡ nat_lt from (length block)
has_byte-drop zero [] = refl
has_byte-drop zero (b ∷ block) = sym (zero-nat_lt (length block))
has_byte-drop (suc from) [] = sym (nat_lt-zero (suc from))
has_byte-drop (suc from) (b ∷ block) = has_byte-drop from block ∙ sym (suc-nat_lt from (length block))

-- one argument more, if it is kept
kept-end : (block ends : List ℕ) → AllKept block ends
    → kept (parts_ending block 0 ends ++ drop (last_end 0 ends) block ∷ [])
    ≡ parts_ending block 0 ends ++ if_kept (is_kept ends (length block)) (drop (last_end 0 ends) block)
kept-end block ends all =
    kept_behind-append kept_by_place (parts_ending block 0 ends) (drop (last_end 0 ends) block)
    ∙ rw (all, length-parts_ending, has_byte-drop) refl

-- the texts with one end more
parts_ending-end : (block ends : List ℕ)
    → parts_ending block 0 (ends ++ length block ∷ []) ≡ parts_ending block 0 ends ++ drop (last_end 0 ends) block ∷ []
parts_ending-end block ends =
    parts_ending-append block 0 (length block) ends
    ∙ ap (λ (text : List ℕ). parts_ending block 0 ends ++ text ∷ []) (slice_range-rest block (last_end 0 ends))

only_kept-whole : (texts : List (List ℕ)) (text : List ℕ) (place : Place)
    → only_kept (with_whole (arguments_of texts text place)) ≡ arguments_of (kept (texts ++ text ∷ [])) [] Between
only_kept-whole texts text place =
    ap (λ (all : List (List ℕ)). arguments_of (kept all) [] Between)
    (reverse-cons (reverse (reverse text)) (reverse texts)
    ∙ ap (λ (front : List (List ℕ)). front ++ reverse (reverse text) ∷ []) (reverse-reverse texts)
    ∙ ap (λ (last : List ℕ). texts ++ last ∷ []) (reverse-reverse text))

-- the argument being read is whole, and kept
pub kept_in-end : (block ends : List ℕ) (place : Place) → AllKept block ends → is_kept ends (length block) ≡ true
    → kept_in block (ends ++ length block ∷ []) Between ≡ only_kept (with_whole (kept_in block ends place))
kept_in-end block ends place all is =
    let text : List ℕ = drop (last_end 0 ends) block in
    let one_more = rw is at (kept-end block ends all) in
    ap (λ (texts : List (List ℕ)). arguments_of texts (drop (last_end 0 (ends ++ length block ∷ [])) block) Between)
    (parts_ending-end block ends ∙ sym one_more)
    ∙ ap (λ from. arguments_of (kept (parts_ending block 0 ends ++ text ∷ [])) (drop from block) Between) (last_end-append 0 (length block) ends)
    ∙ ap (λ (begun : List ℕ). arguments_of (kept (parts_ending block 0 ends ++ text ∷ [])) begun Between) (drop-length block)
    ∙ sym (only_kept-whole (parts_ending block 0 ends) text place)

pub AllKept-end : (block ends : List ℕ) → AllKept block ends → is_kept ends (length block) ≡ true → AllKept block (ends ++ length block ∷ [])
AllKept-end block ends all is =
    ap kept (parts_ending-end block ends) ∙ rw is at (kept-end block ends all) ∙ sym (parts_ending-end block ends)

-- the argument being read is whole, and has no byte
pub kept_in-no_end : (block ends : List ℕ) (place : Place) → AllKept block ends → is_kept ends (length block) ≡ false
    → kept_in block ends Between ≡ only_kept (with_whole (kept_in block ends place))
kept_in-no_end block ends place all is =
    let text : List ℕ = drop (last_end 0 ends) block in
    let no_more = rw (is, append-nil) at (kept-end block ends all) in
    let none : text ≡ [] = drop_all (last_end 0 ends) block (is_kept-none ends (length block) is) in
    ap (λ (texts : List (List ℕ)). arguments_of texts text Between) (sym no_more)
    ∙ ap (λ (begun : List ℕ). arguments_of (kept (parts_ending block 0 ends ++ text ∷ [])) begun Between) none
    ∙ sym (only_kept-whole (parts_ending block 0 ends) text place)
