-- What comes next of a picture that is walked, with the line of rules on which the walk stands, if it does.
use Rattle.std.specs.Prelude.{ℕ}
use Rattle.tbl_picture.specs.declared.walk.Next.{Next as Kept}
use Rattle.tbl_picture.specs.declared.walk.Next.TheVariants as kept
use Rattle.tbl_picture.specs.declared.walk.rules.RuleBegun.{RuleBegun}
use Rattle.tbl_text.specs.declared.block_parts.BlockPlace.{BlockPlace}
use Rattle.tbl_text.specs.declared.block_words.BlockWord.{BlockWord}

-- the rule above everything; an element, or a rule that the box adds, or the rule behind all; a line of a row of rule keys; a column on a line of
-- rules, and the boundary behind it, or the line's end; a line of a row; what stands in front of a column of it; a cell of a line, or the line's end;
-- a word of a block, with the columns of its line up to its end, and the place behind it; or nothing
pub data Next : Type 0 where
  AtTop : Next
  AtElement : Next
  AtRuleRow : (rule : RuleBegun) → Next
  AtRule : (rule : RuleBegun) → Next
  AtLine : Next
  AtFront : (column : ℕ) → Next
  AtCell : Next
  AtWord : (word : BlockWord) (width : ℕ) (place : BlockPlace) → Next
  AtEnd : Next

-- what comes next, and the line of rules, as the code keeps them
abbrev pub next_by : Kept → RuleBegun → Next
next_by kept.AtTop rule = AtTop
next_by kept.AtElement rule = AtElement
next_by kept.AtRuleRow rule = AtRuleRow rule
next_by kept.AtRule rule = AtRule rule
next_by kept.AtLine rule = AtLine
next_by (kept.AtFront column) rule = AtFront column
next_by kept.AtCell rule = AtCell
next_by (kept.AtWord word width place) rule = AtWord word width place
next_by kept.AtEnd rule = AtEnd
