-- What is pending, by what is kept of it.
use Rattle.std.proofs.Common.{if◌then◌else◌, IfSome, refl, sym, ap, ◌∙◌, arith, append-nil, ◌≡◌, ℕ, List, [], ◌∷◌, ◌++◌, Bool, true, false, Option, Some, None, map, option_to_list}
use Rattle.std.specs.Option.{MatchOption}
use Rattle.roff_num.specs.declared.limit.Limit.{Limit}
use Rattle.input_source.specs.Tape.{Item, OneByte, answer_of}
use Rattle.input_source.specs.declared.source.Taken.{Taken}
use Rattle.tbl_format.specs.declared.limits.TblLimits.{TblLimits}
use Rattle.tbl_options.specs.declared.message.Told.{Told}
use Rattle.tbl_core.specs.Machine.{limit_told, own_told, stops}
use Rattle.tbl_options.specs.Messages.{told_item, told_items}
use Rattle.tbl_table.specs.Reading.{KeptTable, kept_nothing}
use Rattle.tbl_core.specs.NotesLeft.{gives_byte, noted}
use Rattle.tbl_core.proofs.NotesLeft.{noted-bytes}
use Rattle.tbl_core.specs.declared.place.Count.{Count}
use Rattle.tbl_core.specs.declared.place.Position.{Position}
use Rattle.tbl_core.specs.Tables.{IsByteGiven, TablesState, pending_of, standing_of}

-- nothing is pending: there is no message and no byte
pub record Nothing (told : List Told) (own : Option Told) (bytes : List ℕ) : Type 0 where
  pub no_told : told ≡ []
  pub no_own : own ≡ None
  pub no_bytes : bytes ≡ []

pub nothing_pending : (told : List Told) (own : Option Told) (bytes : List ℕ)
    → told_items told ++ told_items (option_to_list own) ++ map OneByte bytes ≡ [] → Nothing told own bytes
nothing_pending [] None [] none = record { no_told = refl; no_own = refl; no_bytes = refl }
nothing_pending [] None (b ∷ bytes) none = cc
nothing_pending [] (Some m) bytes none = cc
nothing_pending (m ∷ ms) own bytes none = cc

-- a message of the run's own alone
pub own_pending : (k : KeptTable) (own : Option Told) (ms : List Told) → k.told ≡ [] → k.to_come ≡ [] → option_to_list own ≡ ms
    → pending_of k own ≡ told_items ms
own_pending k own ms no_told no_bytes is = rw (no_told, no_bytes, is) (append-nil (told_items ms))

-- the messages of a table that a limit has cut, and the limit's own
own_behind : (told : List Told) (own : Option Told) (m : Told) → option_to_list own ≡ m ∷ []
    → told_items told ++ told_items (option_to_list own) ++ map OneByte [] ≡ told_items told ++ told_item m ∷ []
own_behind told None m is = cc
own_behind told (Some own) m is =
    let same : own ≡ m = cc in
    append-nil (told_items told ++ told_item own ∷ []) ∙ ap (λ (x : Told). told_items told ++ told_item x ∷ []) same

pub stop_pending : (k : KeptTable) (own : Option Told) (told : List Told) (l : TblLimits) (limit : Limit) (line : ℕ)
    → k.told ≡ told → k.to_come ≡ [] → option_to_list own ≡ own_told l line (Some limit)
    → pending_of k own ≡ (stops l limit line told).out
stop_pending k own told l limit line is no_bytes own_is =
    ap (λ (bytes : List ℕ). told_items k.told ++ told_items (option_to_list own) ++ map OneByte bytes) no_bytes
    ∙ own_behind k.told own (limit_told l limit line) own_is
    ∙ ap (λ (ms : List Told). told_items ms ++ told_item (limit_told l limit line) ∷ []) is

-- a table that may begin brings nothing
pub begun_pending : (begins : Bool) (k : KeptTable) (own : Option Told) → Nothing k.told own k.to_come
    → pending_of (if begins then kept_nothing k.limits else k) own ≡ []
begun_pending true k own none = rw none.no_own refl
begun_pending false k own none = rw (none.no_told, none.no_own, none.no_bytes) refl

-- nor does one that is read on
pub read_pending : (k behind : KeptTable) (own : Option Told) → Nothing k.told own k.to_come → behind.told ≡ k.told
    → behind.to_come ≡ []
    → pending_of behind own ≡ []
read_pending k behind own none told no_bytes = rw (told, none.no_told, none.no_own, no_bytes) refl

-- no message is pending: bytes alone are
pub record Bytes (told : List Told) (own : Option Told) : Type 0 where
  pub no_told : told ≡ []
  pub no_own : own ≡ None

pub bytes_pending : (told : List Told) (own : Option Told) (bytes : List ℕ)
    → noted (told_items told ++ told_items (option_to_list own) ++ map OneByte bytes) ≡ 0 → Bytes told own
bytes_pending [] None bytes none = record { no_told = refl; no_own = refl }
bytes_pending [] (Some m) bytes none = absurd (omega (arith, none))
bytes_pending (m ∷ ms) own bytes none = absurd (omega (arith, none))

module _ (l : TblLimits) (line_length : ℕ) (count : Count) (position : Position) where
  abbrev state_of : KeptTable → Option Told → TablesState
  state_of k own = record {
    limits = l;
    line_length = line_length;
    at = record { pending = pending_of k own; standing = standing_of count position k.reading };
  }

  -- the next one is the table's
  first_byte : (own : Option Told) (new : KeptTable) (b : ℕ) → new.told ≡ [] → own ≡ None
      → IsByteGiven (state_of (record new { to_come = b ∷ new.to_come }) own) (state_of new own) b
  first_byte own new b no_told no_own =
      ap (λ (items : List Item). record { limits = l; line_length = line_length; at = record { pending = items; standing = standing_of count position new.reading } })
      (rw (no_told, no_own) refl)

  pub byte_given : (own : Option Told) (k new : KeptTable) (next : Option ℕ)
      → MatchOption next ((k.to_come ≡ []) × (new ≡ k)) (λ b. k ≡ record new { to_come = b ∷ new.to_come }) → Bytes k.told own
      → MatchOption next (state_of new own ≡ state_of k own) (λ b. IsByteGiven (state_of k own) (state_of new own) b)
  byte_given own k new None given bytes = ap (λ (t : KeptTable). state_of t own) given.1
  byte_given own k new (Some b) given bytes =
      ap (λ (t : KeptTable). state_of t own) given
      ∙ first_byte own new b (ap (λ (t : KeptTable). t.told) (sym given) ∙ bytes.no_told) bytes.no_own

-- behind the messages bytes alone are pending
told_behind_next : (k new : KeptTable) (next : Option ℕ)
    → MatchOption next ((k.to_come ≡ []) × (new ≡ k)) (λ b. k ≡ record new { to_come = b ∷ new.to_come })
    → new.told ≡ k.told
told_behind_next k new None given = ap (λ (t : KeptTable). t.told) given.1
told_behind_next k new (Some b) given = ap (λ (t : KeptTable). t.told) (sym given)

none_noted : (k : KeptTable) (own : Option Told) → k.told ≡ [] → own ≡ None → noted (pending_of k own) ≡ 0
none_noted k own no_told no_own = rw (no_told, no_own) (noted-bytes k.to_come)

each_some : (P : Taken → Type 0) (taken : Option Taken) → ((t : Taken) → P t) → IfSome taken P
each_some P None all = tt
each_some P (Some taken) all = all taken

pub next_quiet : (k new : KeptTable) (own : Option Told) (next : Option ℕ) (taken : Option Taken) → k.told ≡ [] → own ≡ None
    → MatchOption next ((k.to_come ≡ []) × (new ≡ k)) (λ b. k ≡ record new { to_come = b ∷ new.to_come })
    → IfSome taken (λ t. gives_byte (answer_of t) ≡ true → noted (pending_of new own) ≡ 0)
next_quiet k new own next taken no_told no_own given =
    each_some (λ t. gives_byte (answer_of t) ≡ true → noted (pending_of new own) ≡ 0) taken
    (λ t is. none_noted new own (told_behind_next k new next given ∙ no_told) no_own)
