-- What is read of a line of a block in a room.
use Rattle.std.proofs.Common.{◌≡◌, ℕ, ◌+◌, ◌-◌, Bool, true, false, List, [], ◌∷◌, map, refl, ap, ◌∙◌, if◌then◌else◌, nat_lt}
use Rattle.tbl_text.specs.BlockLines.{leading}
use Rattle.tbl_text.specs.BlockPlaces.{IsWithin, ReadsAll, gap_in, left_at, parts_at, parts_within, place_within, word_at}
use Rattle.tbl_text.specs.BlockWords.{OneWord, Part, Word}
use Rattle.tbl_text.specs.FittedWords.{fitted_before, further_fitted, line_fitted, word_fitted}
use Rattle.tbl_text.specs.declared.block_parts.BlockPlace.{BlockPlace}
use Rattle.tbl_text.specs.declared.block_parts.BlockPlace.TheVariants.{AtEnd, AtLine, AtLineWithin, Behind, BehindWithin}
use Rattle.tbl_text.specs.declared.block_parts.Room.{Room}
use Rattle.tbl_text.specs.declared.block_words.BlockWord.{BlockWord}

-- a word in front of what is left, by how much room there is
word-by : (w : Word) (columns : ℕ) (parts : List Part) (first : Bool)
    → (if first then line_fitted columns (OneWord w ∷ parts) else further_fitted columns (OneWord w ∷ parts))
    ≡ fitted_before columns (if first then leading w else w.gap) w
    (further_fitted (columns - ((if first then leading w else w.gap) + w.columns)) parts)
word-by w columns parts true = refl
word-by w columns parts false = refl

module _ (bytes : List ℕ) (w : BlockWord) (room : Room) (parts : List Part) where
  abbrev others : List Part
  others = further_fitted (room.columns - (gap_in room w + w.width)) parts

  word-in : parts_within room (OneWord (word_at bytes w) ∷ parts) ≡ fitted_before room.columns (gap_in room w) (word_at bytes w) others
  word-in = word-by (word_at bytes w) room.columns parts room.is_first

  abbrev by_tests : Bool → Bool → List Part
  by_tests over wide =
      if over then []
      else if wide then map OneWord (word_fitted (room.columns - gap_in room w) (word_at bytes w))
      else OneWord (word_at bytes w) ∷ others

  pub word-over : nat_lt room.columns (gap_in room w) ≡ true → parts_within room (OneWord (word_at bytes w) ∷ parts) ≡ []
  word-over over = word-in ∙ ap (λ (t : Bool). by_tests t (nat_lt room.columns (gap_in room w + w.width))) over

  pub word-cut : nat_lt room.columns (gap_in room w) ≡ false → nat_lt room.columns (gap_in room w + w.width) ≡ true
      → parts_within room (OneWord (word_at bytes w) ∷ parts) ≡ map OneWord (word_fitted (room.columns - gap_in room w) (word_at bytes w))
  word-cut over wide =
      word-in
      ∙ ap (λ (t : Bool). by_tests t (nat_lt room.columns (gap_in room w + w.width))) over
      ∙ ap (λ (t : Bool). by_tests false t) wide

  pub word-whole : nat_lt room.columns (gap_in room w) ≡ false → nat_lt room.columns (gap_in room w + w.width) ≡ false
      → parts_within room (OneWord (word_at bytes w) ∷ parts) ≡ OneWord (word_at bytes w) ∷ others
  word-whole over wide =
      word-in
      ∙ ap (λ (t : Bool). by_tests t (nat_lt room.columns (gap_in room w + w.width))) over
      ∙ ap (λ (t : Bool). by_tests false t) wide

-- what is left behind it is read in the room that is left
pub rest-within : (bytes : List ℕ) (columns : ℕ) (place : BlockPlace) → ReadsAll place
    → further_fitted columns (parts_at bytes place) ≡ parts_at bytes (place_within (record { columns = columns; is_first = false }) place)
rest-within bytes columns (AtLine line before) all = refl
rest-within bytes columns (Behind at end ends) all = refl
rest-within bytes columns AtEnd all = refl
rest-within bytes columns (AtLineWithin line before room) all = absurd all
rest-within bytes columns (BehindWithin at end ends room) all = absurd all

pub within-place : (bytes : List ℕ) (room : Room) (place : BlockPlace) → IsWithin bytes place → IsWithin bytes (place_within room place)
within-place bytes room (AtLine line before) within = within
within-place bytes room (Behind at end ends) within = within
within-place bytes room AtEnd within = within
within-place bytes room (AtLineWithin line before other) within = within
within-place bytes room (BehindWithin at end ends other) within = within

pub left-place : (bytes : List ℕ) (room : Room) (place : BlockPlace) → left_at bytes (place_within room place) ≡ left_at bytes place
left-place bytes room (AtLine line before) = refl
left-place bytes room (Behind at end ends) = refl
left-place bytes room AtEnd = refl
left-place bytes room (AtLineWithin line before other) = refl
left-place bytes room (BehindWithin at end ends other) = refl
