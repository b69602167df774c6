-- What the code keeps of a title's text.
use Rattle.std.specs.Prelude.{ℕ, ◌≤◌, List, [], drop, take, vec_len, vec_capacity}
use Rattle.run_state.specs.declared.title_text.TitleText.TheInside.{Inside}
use Rattle.run_model.specs.TitleTexts.{TitleText, title_begun}
use Rattle.run_model.specs.declared.title.TitlePart.{TitlePart}
use Rattle.run_model.specs.declared.title.TitlePart.TheVariants.{Left, Centre, Right}

-- a title, and how many bytes it has room for
pub record HeldTitle : Type 0 where
  pub text : TitleText
  pub room : ℕ

-- three parts in one block, of which the first two end there, if they have ended
abbrev pub parts_in : TitlePart → ℕ → ℕ → List ℕ → TitleText
parts_in Left left_end centre_end bytes = record { part = Left; left = bytes; centre = []; right = [] }
parts_in Centre left_end centre_end bytes =
    record { part = Centre; left = take left_end bytes; centre = drop left_end bytes; right = [] }
parts_in Right left_end centre_end bytes = record {
  part = Right;
  left = take left_end bytes;
  centre = drop left_end (take centre_end bytes);
  right = drop centre_end bytes;
}

-- what the fields hold
abbrev pub held_by : Inside → HeldTitle
held_by a = record { text = parts_in a.part a.left_end a.centre_end a.bytes.items; room = a.room }

-- an empty one
abbrev pub empty_with : ℕ → HeldTitle
empty_with room = record { text = title_begun []; room = room }

-- the room is reserved, and the parts end in their order
pub record IsKept (a : Inside) : Type 0 where
  pub reserved : a.room ≤ vec_capacity a.bytes
  pub within : vec_len a.bytes ≤ a.room
  pub left : a.left_end ≤ a.centre_end
  pub centre : a.centre_end ≤ vec_len a.bytes
