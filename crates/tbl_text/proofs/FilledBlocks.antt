-- A block as far as it is filled.
use Rattle.std.proofs.Common.{◌≡◌, ℕ, ◌+◌, ◌≤◌, Bool, true, false, ◌||◌, List, ◌∷◌, length, max, Option, Some, None, refl, sym, ap, ◌∙◌, arith, IfSome}
use Rattle.tbl_text.specs.BlockWords.{Part}
use Rattle.tbl_text.specs.BlockLines.{behind_first, first_line, has_word, line_width, lines_of, widest}
use Rattle.tbl_text.specs.BlockPlaces.{GoesOn, IsWithin, PartLies, part_at, parts_at, parts_with}
use Rattle.tbl_text.specs.FilledLines.{is_word, left_with}
use Rattle.tbl_text.specs.declared.block_parts.BlockPlace.{BlockPlace}
use Rattle.tbl_text.specs.declared.block_parts.BlockPart.{BlockPart}
use Rattle.tbl_text.specs.declared.block_parts.BlockPart.TheVariants.{EmptyLine as AnEmptyLine, Word as AWord}
use Rattle.tbl_text.proofs.Filling.{lines_of-cons}

-- what is known behind what comes next
pub next_lies : (bytes : List ℕ) (left : ℕ) (next : Option (BlockPart × BlockPlace)) → IfSome next (GoesOn bytes left)
    → IfSome next (λ n. PartLies bytes n.0 × IsWithin bytes n.1)
next_lies bytes left None on = on
next_lies bytes left (Some n) on = (on.lies, on.within)

-- less is left with it
pub left_with-less : (bytes : List ℕ) (left : ℕ) (next : Option (BlockPart × BlockPlace)) → IfSome next (GoesOn bytes left)
    → left_with bytes next ≤ left
left_with-less bytes left None on = omega arith
left_with-less bytes left (Some n) on = omega (arith, on.less)

module _ (measure : ℕ) (bytes : List ℕ) (part : BlockPart) (behind : BlockPlace) (next : Option (BlockPart × BlockPlace)) (left : behind_first measure (part_at bytes part ∷ parts_at bytes behind) ≡ parts_with bytes next) where
  abbrev parts : List Part
  parts = part_at bytes part ∷ parts_at bytes behind

  lines_are : lines_of measure parts ≡ first_line measure parts ∷ lines_of measure (parts_with bytes next)
  lines_are =
      lines_of-cons measure (part_at bytes part) (parts_at bytes behind)
      ∙ ap (λ (rest : List Part). first_line measure parts ∷ lines_of measure rest) left

  -- one line more
  pub lines-more : (lines all : ℕ) → lines + length (lines_of measure parts) ≡ all
      → lines + 1 + length (lines_of measure (parts_with bytes next)) ≡ all
  lines-more lines all so_far = omega (arith, so_far, ap length lines_are)

  -- the width of the widest with it
  pub width-more : (width line all : ℕ) → line ≡ line_width (first_line measure parts) → max width (widest (lines_of measure parts)) ≡ all
      → max (max width line) (widest (lines_of measure (parts_with bytes next))) ≡ all
  width-more width line all is so_far = omega (arith, is, so_far, ap widest lines_are)

word_by : (measure : ℕ) (bytes : List ℕ) (part : BlockPart) (behind : BlockPlace) (next : Option (BlockPart × BlockPlace))
    → behind_first measure (part_at bytes part ∷ parts_at bytes behind) ≡ parts_with bytes next
    → (is_word part || has_word (parts_with bytes next)) ≡ has_word (part_at bytes part ∷ parts_at bytes behind)
word_by measure bytes AnEmptyLine behind next left = ap has_word (sym left)
word_by measure bytes (AWord w) behind next left = refl

or_assoc : (a b c : Bool) → ((a || b) || c) ≡ (a || (b || c))
or_assoc true b c = refl
or_assoc false b c = refl

-- whether there is a word with it
pub word-more : (measure : ℕ) (bytes : List ℕ) (part : BlockPart) (behind : BlockPlace) (next : Option (BlockPart × BlockPlace))
    → behind_first measure (part_at bytes part ∷ parts_at bytes behind) ≡ parts_with bytes next → (has all : Bool)
    → (has || has_word (part_at bytes part ∷ parts_at bytes behind)) ≡ all
    → ((has || is_word part) || has_word (parts_with bytes next)) ≡ all
word-more measure bytes part behind next left has all so_far =
    or_assoc has (is_word part) (has_word (parts_with bytes next))
    ∙ ap (λ (t : Bool). has || t) (word_by measure bytes part behind next left) ∙ so_far
