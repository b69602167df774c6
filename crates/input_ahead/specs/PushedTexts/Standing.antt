-- How slots and a stack of bytes stand for what is ahead of the source.
use Rattle.std.specs.Prelude.{◌≡◌, ℕ, ◌≤◌, Bool, false, nat_lt, List, [], ◌∷◌, ◌++◌, map, length, reverse, take, drop, replicate}
use Rattle.input_model.specs.Input.{Ahead, ByteAhead, FreeAhead, EndAhead, ReturnAhead, DoAhead}
use Rattle.input_ahead.specs.declared.pushed_texts.PushedItem.{PushedItem}
use Rattle.input_ahead.specs.declared.pushed_texts.PushedItem.TheVariants.{Byte as FrontByte, Free as FrontFree, End as FrontEnd, Return as FrontReturn, Do as FrontDo}
use Rattle.input_ahead.specs.declared.pushed_texts.Mark.{Mark}
use Rattle.input_ahead.specs.declared.pushed_texts.Mark.TheVariants.{Ends, Return, Free, Do}
use Rattle.input_ahead.specs.declared.pushed_texts.MarkAt.{MarkAt}

-- the item that the code takes
abbrev pub item_of : {E : Type 0} → PushedItem E → Ahead E
item_of (FrontByte b) = ByteAhead b
item_of (FrontFree b) = FreeAhead b
item_of FrontEnd = EndAhead
item_of (FrontReturn back) = ReturnAhead back
item_of (FrontDo event) = DoAhead event

-- what a mark stands for
abbrev pub items_of : {E : Type 0} → Mark E → List (Ahead E)
items_of (Ends more) = EndAhead ∷ replicate more EndAhead
items_of (Return back) = ReturnAhead back ∷ []
items_of (Free b) = FreeAhead b ∷ []
items_of (Do event) = DoAhead event ∷ []

-- The slots, the front one first, and the unread bytes, the next one last: before a slot's mark come the bytes
-- above its height.
abbrev pub standing : {E : Type 0} → List (MarkAt E) → List ℕ → List (Ahead E)
standing [] bytes = []
standing (slot ∷ pushed_texts) bytes =
    map ByteAhead (reverse (drop slot.height bytes)) ++ (items_of slot.mark ++ standing pushed_texts (take slot.height bytes))

-- each slot's height is within that of the one before it, and the last one has all bytes above it
abbrev pub IsStacked : {E : Type 0} → List (MarkAt E) → ℕ → Type 0
IsStacked [] height = height ≡ 0
IsStacked (slot ∷ pushed_texts) height = (slot.height ≤ height) × IsStacked pushed_texts slot.height

-- whether a byte of a text comes next
abbrev pub is_byte_next : {E : Type 0} → List (MarkAt E) → List ℕ → Bool
is_byte_next [] bytes = false
is_byte_next (slot ∷ pushed_texts) bytes = nat_lt slot.height (length bytes)
