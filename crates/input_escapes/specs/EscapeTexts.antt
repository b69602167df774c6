-- What the code keeps of what is half read.
use Rattle.std.specs.Prelude.{◌≡◌, ℕ, Bool, true, false, ◌≤◌, ◌<◌, ◌^◌, List, [], ◌∷◌, length, reverse, take, drop, vec_capacity}
use Rattle.std.specs.List.{sum_by}
use Rattle.input_escapes.specs.OpenEscape.{OpenEscape, Backslash, Comment, Name, Size, Delimited, Width, Condition, texts_held}
use Rattle.input_escapes.specs.OpenEscapes.{Reads}
use Rattle.input_escapes.specs.Nesting.{IsNested}
use Rattle.input_escapes.specs.declared.open_escape.HeldEscape.{HeldEscape}
use Rattle.input_escapes.specs.declared.open_escape.HeldEscape.TheVariants.{Backslash as BackslashRead, Comment as CommentRead, Name as NameRead, Size as SizeRead, Delimited as DelimitedRead, Width as WidthRead, Condition as ConditionRead}
use Rattle.input_escapes.specs.declared.open_escape.Found.{Found}
use Rattle.input_escapes.specs.declared.open_escapes.OpenEscapes.TheInside.{Inside}

-- what is half read, and how many bytes of texts there is room for
pub record KeptEscapes : Type 0 where
  pub escapes : List OpenEscape
  pub room : ℕ

-- the texts stand behind each other in one block, the innermost last
abbrev pub joined : List HeldEscape → List ℕ → List OpenEscape
joined [] block = []
joined (BackslashRead ∷ items) block = Backslash ∷ joined items block
joined (CommentRead ∷ items) block = Comment ∷ joined items block
joined (NameRead purpose part ∷ items) block = Name purpose part ∷ joined items block
joined (SizeRead part ∷ items) block = Size part ∷ joined items block
joined (DelimitedRead purpose delimiter begin ∷ items) block = Delimited purpose delimiter (drop begin block) ∷ joined items (take begin block)
joined (WidthRead delimiter width is_deep ∷ items) block = Width delimiter width is_deep ∷ joined items block
joined (ConditionRead part begin ∷ items) block = Condition part (drop begin block) ∷ joined items (take begin block)

-- each of them begins within the block, and no byte stands before the first
abbrev pub AreJoined : List HeldEscape → List ℕ → Type 0
AreJoined [] block = block ≡ []
AreJoined (DelimitedRead purpose delimiter begin ∷ items) block = (begin ≤ length block) × AreJoined items (take begin block)
AreJoined (ConditionRead part begin ∷ items) block = (begin ≤ length block) × AreJoined items (take begin block)
AreJoined (item ∷ items) block = AreJoined items block

-- what the fields keep: the innermost stands at the back
abbrev pub kept_by : Inside → KeptEscapes
kept_by a = record { escapes = joined (reverse a.items.items) a.texts.items; room = a.room }

-- the room is reserved, the texts lie within it, and things are within each other as they may be
pub record IsSound (a : Inside) : Type 0 where
  pub small : a.room < 2 ^ 32
  pub reserved : a.room ≤ vec_capacity a.texts
  pub within : length a.texts.items ≤ a.room
  pub joined : AreJoined (reverse a.items.items) a.texts.items
  pub nested : IsNested (kept_by a).escapes

-- what a byte, a unit or an ending gives, and what is kept then
abbrev pub leaving : Reads → KeptEscapes → Found × KeptEscapes
leaving r k = (r.0, record k { escapes = r.1 })

-- an item as it is kept where it begins: a text without a byte
abbrev pub begun : HeldEscape → OpenEscape
begun BackslashRead = Backslash
begun CommentRead = Comment
begun (NameRead purpose part) = Name purpose part
begun (SizeRead part) = Size part
begun (DelimitedRead purpose delimiter begin) = Delimited purpose delimiter []
begun (WidthRead delimiter width is_deep) = Width delimiter width is_deep
begun (ConditionRead part begin) = Condition part []

-- a text begins behind these bytes
abbrev pub BeginsBehind : ℕ → HeldEscape → Type 0
BeginsBehind bytes (DelimitedRead purpose delimiter begin) = begin ≡ bytes
BeginsBehind bytes (ConditionRead part begin) = begin ≡ bytes
BeginsBehind bytes (item) = Unit {0}

-- something that is kept, with its text, if it has one
abbrev pub with_text : HeldEscape → List ℕ → OpenEscape
with_text BackslashRead text = Backslash
with_text CommentRead text = Comment
with_text (NameRead purpose part) text = Name purpose part
with_text (SizeRead part) text = Size part
with_text (DelimitedRead purpose delimiter begin) text = Delimited purpose delimiter text
with_text (WidthRead delimiter width is_deep) text = Width delimiter width is_deep
with_text (ConditionRead part begin) text = Condition part text

-- whether something has a text
abbrev pub holds_text : HeldEscape → Bool
holds_text (DelimitedRead purpose delimiter begin) = true
holds_text (ConditionRead part begin) = true
holds_text (item) = false

-- the text of what is on top, if it has one
abbrev pub text_on_top : List OpenEscape → List ℕ
text_on_top (Delimited purpose delimiter text ∷ rest) = text
text_on_top (Condition part text ∷ rest) = text
text_on_top (_) = []

-- it stands on top, with its text, which begins behind those below
pub record IsOnTop (item : HeldEscape) (half : List OpenEscape) : Type 0 where
  pub text : List ℕ
  pub rest : List OpenEscape
  pub same : half ≡ with_text item text ∷ rest
  pub begins : BeginsBehind (texts_held rest) item

-- 1 for a name
abbrev pub one_name : HeldEscape → ℕ
one_name (NameRead purpose part) = 1
one_name (item) = 0

-- how many of these are names
abbrev pub names_among : List HeldEscape → ℕ
names_among items = sum_by one_name items

-- 1 for a text that is measured
abbrev pub one_width : HeldEscape → ℕ
one_width (WidthRead delimiter width is_deep) = 1
one_width (item) = 0

-- how many of these are texts that are measured
abbrev pub widths_among : List HeldEscape → ℕ
widths_among items = sum_by one_width items
