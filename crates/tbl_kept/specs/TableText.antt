-- The bytes of a table, as they are kept while they are read.
use Rattle.std.specs.Prelude.{◌≡◌, ℕ, ◌+◌, ◌-◌, ◌*◌, ◌≤◌, ◌<◌, List, [], ◌∷◌, ◌++◌, length, take, drop, nat_lt, if◌then◌else◌, Option, None, Some, vec_capacity}
use Rattle.std.specs.List.{slice_range}
use Rattle.input_source.specs.Bytes.{newline}
use Rattle.tbl_kept.specs.Joined.{Joined, RiseWithin, behind_joined, ends_joined, line_at, unjoined}
use Rattle.tbl_kept.specs.declared.table_text.Joint.{Joint}
use Rattle.tbl_kept.specs.declared.table_text.TableText.TheInside.{Inside}

-- the room for complete lines; the bytes of those that are done, the line of the data that goes on, and the bytes of the one
-- begun, as they lie one after another in the block; the joints, and all complete lines as they were read
pub record KeptText : Type 0 where
  pub text_room : ℕ
  pub settled : List ℕ
  pub pending : Option Joined
  pub line : List ℕ
  pub joints : List Joint
  pub read : List ℕ

-- no line
abbrev pub no_text : ℕ → KeptText
no_text room = record { text_room = room; settled = []; pending = None; line = []; joints = []; read = [] }

-- the block
abbrev pub block_of : KeptText → List ℕ
block_of k = k.settled ++ behind_joined k.pending k.line

-- behind the newline of a line that is done
abbrev pub text_ended : KeptText → KeptText
text_ended k = record k {
  settled = k.settled ++ (behind_joined k.pending k.line ++ newline ∷ []);
  pending = None;
  line = [];
  read = k.read ++ k.line ++ newline ∷ [];
}

-- behind the newline of a line that goes on, by the bytes in front of its backslash
abbrev pub joined_by : ℕ → List ℕ → KeptText → KeptText
joined_by n bytes k = record k {
  pending = Some (record { bytes = bytes; ends = ends_joined k.pending ++ (length bytes, n) ∷ [] });
  line = [];
  joints = k.joints ++ record { place = length k.settled + length bytes; line = n } ∷ [];
  read = k.read ++ k.line ++ newline ∷ [];
}

abbrev pub text_joined : ℕ → KeptText → KeptText
text_joined n k = joined_by n (behind_joined k.pending (take (length k.line - 1) k.line)) k

-- a line that goes on is done
abbrev pub text_closed : KeptText → KeptText
text_closed k = record k { settled = k.settled ++ behind_joined k.pending []; pending = None }

-- all bytes are of complete lines
abbrev pub text_whole : KeptText → KeptText
text_whole k = record k { settled = block_of k; pending = None; line = []; read = k.read ++ k.line }

-- where the lines end that were joined, from the place on at which the first begins
abbrev pub ends_of : ℕ → List Joint → List (ℕ × ℕ)
ends_of start [] = []
ends_of start (j ∷ joints) = (j.place - start, j.line) ∷ ends_of start joints

-- the line that goes on, by the joints in it
abbrev pub pending_of : ℕ → List ℕ → List Joint → Option Joined
pending_of start bytes [] = None
pending_of start bytes (j ∷ joints) = Some (record { bytes = bytes; ends = ends_of start (j ∷ joints) })

-- what a block with its joints is
abbrev pub text_of_block : ℕ → List ℕ → List Joint → ℕ → ℕ → ℕ → KeptText
text_of_block room block joints line_start open_start open_joints = record {
  text_room = room;
  settled = take open_start block;
  pending = pending_of open_start (slice_range block open_start line_start) (drop open_joints joints);
  line = drop line_start block;
  joints = joints;
  read = unjoined 0 (take line_start block) joints;
}

abbrev pub kept_by : Inside → KeptText
kept_by a = text_of_block a.text_room a.block.items a.joints.items a.line_start a.open_start a.open_joints

-- the line that is begun starts behind those that are joined to it, and without a joint of its own where it stands alone
pub record Lies (block : List ℕ) (joints : List Joint) (line_start open_start open_joints : ℕ) : Type 0 where
  pub line : line_start ≤ length block
  pub order : open_start ≤ line_start
  pub rise : RiseWithin line_start 0 joints
  pub alone : length joints ≤ open_joints → open_start ≡ line_start
  pub count : open_joints ≤ length joints

-- lines of the input are by these joints what they are by those, for all places from one on
pub record StaysBehind (start place : ℕ) (joints behind : List Joint) : Type 0 where
  pub line : (later number : ℕ) → place ≤ later → line_at (ends_of start behind) later number ≡ line_at (ends_of start joints) later number

-- the number of the line that ends at the first joint
abbrev pub line_first : List Joint → ℕ → ℕ
line_first [] number = number
line_first (j ∷ joints) number = j.line

-- from which joint on a place is looked for
abbrev pub asked_from : ℕ → ℕ → ℕ → ℕ → ℕ
asked_from place asked_place open_joints asked_joint = if nat_lt place asked_place then open_joints else asked_joint

-- the joint that was asked last
pub record IsAsked (joints : List Joint) (open_start open_joints asked_place asked_joint : ℕ) : Type 0 where
  pub within : asked_joint ≤ length joints
  pub passed : StaysBehind open_start asked_place (drop open_joints joints) (drop asked_joint joints)

-- and the room is reserved
pub record IsSound (a : Inside) : Type 0 where
  pub block : a.text_room + 4 ≤ vec_capacity a.block
  pub joints : a.text_room ≤ 2 * vec_capacity a.joints
  pub few : length a.block.items + 2 * length a.joints.items ≤ a.text_room + 4
  pub most : a.text_room < 4294967296
  pub lies : Lies a.block.items a.joints.items a.line_start a.open_start a.open_joints
  pub asked : IsAsked a.joints.items a.open_start a.open_joints a.asked_place a.asked_joint
