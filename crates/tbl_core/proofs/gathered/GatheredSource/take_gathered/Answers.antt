use Rattle.std.proofs.Common.{◌≡◌, ◌<◌, ◌∙◌, ℕ, List, drop, get_or, length, rules, subst, sym, drop-drop}
use Rattle.std.proofs.lemmas.List.{get_or_default}
use Rattle.input_source.specs.Tape.{StaysReady}
use Rattle.tbl_core.specs.Gathered.{left_of}
use Rattle.tbl_core.specs.Source.{source_ready}
use Rattle.tbl_core.proofs.GatheredBytes.{byte_given, first_left, some_left}
use Rattle.tbl_core.proofs.Staying.{stays_or}
use Rattle.tbl_core.proofs.gathered.GatheredSource.take_gathered.Goals as goal

pub returns-clause-gives : goal.returns-clause-gives
returns-clause-gives g c =
    let now = c.args.self.now in
    let more : now.next < length now.gathered.items = search rules in
    let taken : c.index-byte.result.now ≡ get_or now.gathered.items now.next 0 =
    c.index-byte.ensures ∙ get_or_default now.gathered.items now.next c.index-byte.result.now 0 more in
    let kept = c.gather_more.ensures.kept in
    rw taken
    (byte_given g.S.ByteSource.gives g.met.S.ByteSource.some now c.gather_more.new.self _ _ (first_left now.gathered.items now.next more) kept.inner kept.tables)

pub returns-clause-ready : goal.returns-clause-ready
returns-clause-ready g c = c.gather_more.ensures.ready

pub returns-clause-stays : goal.returns-clause-stays
returns-clause-stays g c =
    let now = c.args.self.now in
    let new = c.gather_more.new.self in
    let ready = source_ready g.S.ByteSource.ready in
    let more : now.next < length now.gathered.items = search rules in
    let left : StaysReady 0 (drop 1 (left_of now)) (left_of new) =
    subst (λ (bytes : List ℕ). StaysReady 0 bytes (left_of new)) (sym (drop-drop 1 now.next now.gathered.items)) c.gather_more.ensures.left in
    stays_or (left_of now) (ready now.source) (left_of new) (ready new.source) 1 (some_left now.gathered.items now.next more) left
