-- What a call on a store of texts leaves alone.
use Rattle.std.proofs.Common.{◌≡◌, true, false, refl, Result, Ok, Err}
use Rattle.roff_num.specs.declared.limit.Limit.{Limit}
use Rattle.roff_store.specs.Texts.{Texts}
use Rattle.roff_store.specs.TextCalls.{Call, Set, Append, Remove, Rename, Open, PushOpen, Enter, DropOpen, Lease, Take, Release, made, answered, after, unless_refused}
use Rattle.roff_store.specs.TextLaws.{is_of_lease}

-- a store that has the same leases whether or not a limit would be passed
leases-unless_refused : (answer : Result (Unit {0}) Limit) (before now : Texts) → now.leases ≡ before.leases
    → (unless_refused answer before now).leases ≡ before.leases
leases-unless_refused (Ok done) before now same = same
leases-unless_refused (Err limit) before now same = refl

-- calls on names and on texts in the making leave the leases alone
pub leases-after : (call : Call) (t : Texts) → is_of_lease call ≡ false → (after call t).leases ≡ t.leases
leases-after (Set name entry) t other = leases-unless_refused (answered (Set name entry) t) t (made (Set name entry) t) refl
leases-after (Append name bytes) t other =
    leases-unless_refused (answered (Append name bytes) t) t (made (Append name bytes) t) refl
leases-after (Remove name) t other = refl
leases-after (Rename name later) t other = refl
leases-after Open t other = refl
leases-after (PushOpen id bytes) t other =
    leases-unless_refused (answered (PushOpen id bytes) t) t (made (PushOpen id bytes) t) refl
leases-after (Enter id name append) t other =
    leases-unless_refused (answered (Enter id name append) t) t (made (Enter id name append) t) refl
leases-after (DropOpen id) t other = refl
leases-after (Lease name id) t other = cc
leases-after (Take id count) t other = cc
leases-after (Release id) t other = cc

-- calls on leases leave the names alone
pub names-after : (call : Call) (t : Texts) → is_of_lease call ≡ true → (after call t).names ≡ t.names
names-after (Set name entry) t other = cc
names-after (Append name bytes) t other = cc
names-after (Remove name) t other = cc
names-after (Rename name later) t other = cc
names-after Open t other = cc
names-after (PushOpen id bytes) t other = cc
names-after (Enter id name append) t other = cc
names-after (DropOpen id) t other = cc
names-after (Lease name id) t other = refl
names-after (Take id count) t other = refl
names-after (Release id) t other = refl

-- and the texts in the making
pub open_texts-after : (call : Call) (t : Texts) → is_of_lease call ≡ true → (after call t).open_texts ≡ t.open_texts
open_texts-after (Set name entry) t other = cc
open_texts-after (Append name bytes) t other = cc
open_texts-after (Remove name) t other = cc
open_texts-after (Rename name later) t other = cc
open_texts-after Open t other = cc
open_texts-after (PushOpen id bytes) t other = cc
open_texts-after (Enter id name append) t other = cc
open_texts-after (DropOpen id) t other = cc
open_texts-after (Lease name id) t other = refl
open_texts-after (Take id count) t other = refl
open_texts-after (Release id) t other = refl

-- a call that is refused changes nothing
pub after-refused : {limit : Limit} (call : Call) (t : Texts) → answered call t ≡ Err limit → after call t ≡ t
after-refused call t refused = rw refused refl
