-- What names stand for in an input, and the texts in the making (manual, section 7).
use Rattle.std.specs.Prelude.{ℕ, ◌-◌, Bool, List, [], length, nat_lt, Option, Some, None, if◌then◌else◌}
use Rattle.roff_store.specs.TextCalls.{Call, Enter, PushOpen, DropOpen, made}
use Rattle.roff_store.specs.Texts.{Texts, body_of, newest, used}
use Rattle.input_model.specs.Input.{Input}

-- the texts of an input, as a store without limits has them
abbrev pub texts_of : {E : Type 0} → Input E → Texts
texts_of i = record {
  names = record { entries = i.names; cap = 0 };
  open_texts = i.open_texts;
  leases = [];
  cap_bytes = 0;
  cap_kept = 0;
  cap_open = 0;
  cap_leases = 0;
}

-- the input with the texts of a store
abbrev pub with_texts : {E : Type 0} → Texts → Input E → Input E
with_texts t i = record i { names = t.names.entries; open_texts = t.open_texts }

-- the input behind a call on names or texts in the making, if no limit refuses it
abbrev pub calling : {E : Type 0} → Call → Input E → Input E
calling call i = with_texts (made call (texts_of i)) i

-- what counts in the limit on the store: the bytes of bodies and of texts in the making
abbrev pub stored : {E : Type 0} → Input E → ℕ
stored i = used (texts_of i)

-- what counts in the limit on names: those beyond the ones that were there at the start
abbrev pub names_added : {E : Type 0} → Input E → ℕ
names_added i = length i.names - i.first_names

-- the body of a name; a name that has none reads as an empty one
abbrev pub body_named : {E : Type 0} → List ℕ → Input E → List ℕ
body_named name i = body_of name (texts_of i)

-- the input behind a call on the text in the making with this number, if there is one
abbrev pub calling_on : {E : Type 0} → (ℕ → Call) → Option ℕ → Input E → Input E
calling_on call None i = i
calling_on call (Some id) i = calling (call id) i

-- bytes are put behind the newest text in the making
abbrev pub adding : {E : Type 0} → List ℕ → Input E → Input E
adding bytes i = calling_on (λ id. PushOpen id bytes) (newest i.open_texts) i

-- it ends: it is put behind the body of a name, or is the name's body from now on
abbrev pub entering : {E : Type 0} → List ℕ → Bool → Input E → Input E
entering name append i = calling_on (λ id. Enter id name append) (newest i.open_texts) i

-- it is dropped
abbrev pub dropping : {E : Type 0} → Input E → Input E
dropping i = calling_on (λ id. DropOpen id) (newest i.open_texts) i

-- the text in the making of a number, the oldest being 0, if there is one
abbrev pub open_numbered : {E : Type 0} → ℕ → Input E → Option ℕ
open_numbered index i = if nat_lt index (length i.open_texts) then Some index else None

-- bytes are put behind the text in the making of this number
abbrev pub adding_to : {E : Type 0} → ℕ → List ℕ → Input E → Input E
adding_to index bytes i = calling_on (λ id. PushOpen id bytes) (open_numbered index i) i

-- it ends: it is put behind the body of a name, or is the name's body from now on
abbrev pub entering_open : {E : Type 0} → ℕ → List ℕ → Bool → Input E → Input E
entering_open index name append i = calling_on (λ id. Enter id name append) (open_numbered index i) i

-- all texts in the making are dropped
abbrev pub dropping_all : {E : Type 0} → Input E → Input E
dropping_all i = record i { open_texts = [] }
