use Rattle.std.proofs.Common.{◌≡◌, ◌<◌, length, sym, ◌∙◌, arith}
use Rattle.std.proofs.lemmas.Bool.Decides.{nat_tests}
use Rattle.roff_store.proofs.ExtendingOn.{extending-first, extending-last, extending-next, extending-room, extending-short}
use Rattle.roff_store.proofs.Pool.{held-shared, held-text, longer-held}
use Rattle.roff_store.proofs.chunks.Chunks.extend.Goals as goal

pub loop-behind-init : goal.loop-behind-init
loop-behind-init c =
    let e = c.fill-strand.ensures in
    extending-first c.args.self.now c.fill-strand.new.self c.args.strand c.fill-strand.result c.args.text.now
    c.split_at.result.0.now c.split_at.result.1.now c.room_behind-room.result (held-text c.requires.held)
    c.room_behind-room.ensures.none c.room_behind-room.ensures.room (sym c.split_at.ensures.by_index.0)
    (c.split_at.ensures.front_len ∙ c.min.ensures) e.extended e.chunks e.shares

pub room_behind-room-requires : goal.room_behind-room-requires
room_behind-room-requires c = held-text c.requires.held

pub fill-strand-requires-clause-strand : goal.fill-strand-requires-clause-strand
fill-strand-requires-clause-strand c = held-text c.requires.held

pub fill-strand-requires-clause-shared : goal.fill-strand-requires-clause-shared
fill-strand-requires-clause-shared c = held-shared c.requires.held

pub link_behind-strand-requires-clause-strand : goal.link_behind-strand-requires-clause-strand
link_behind-strand-requires-clause-strand c = held-text (longer-held c.requires.held c.loop-behind.invariant.longer)

pub link_behind-strand-requires-clause-shared : goal.link_behind-strand-requires-clause-shared
link_behind-strand-requires-clause-shared c = held-shared (longer-held c.requires.held c.loop-behind.invariant.longer)

pub link_behind-strand-requires-clause-full : goal.link_behind-strand-requires-clause-full
link_behind-strand-requires-clause-full c =
    let some : 0 < length c.loop-behind.behind.now = grind (arith, nat_tests) in
    c.loop-behind.invariant.full some

pub link_behind-strand-requires-clause-room : goal.link_behind-strand-requires-clause-room
link_behind-strand-requires-clause-room c =
    let some : 0 < length c.loop-behind.behind.now = grind (arith, nat_tests) in
    extending-room c.args.self.now c.loop-behind.self c.args.strand c.loop-behind.strand c.args.text.now
    c.loop-behind.behind.now c.loop-behind.invariant c.requires.room some

pub link_behind-strand-requires-clause-short : goal.link_behind-strand-requires-clause-short
link_behind-strand-requires-clause-short c =
    let all = extending-short c.args.self.now c.loop-behind.self c.args.strand c.loop-behind.strand c.args.text.now
    c.loop-behind.behind.now c.loop-behind.invariant in
    let piece = c.split_at-in-loop-behind.ensures.front_len in
    let count = c.min-in-loop-behind.ensures in
    let short = c.requires.short in
    omega arith

pub loop-behind-preserved : goal.loop-behind-preserved
loop-behind-preserved c =
    let some : 0 < length c.loop-behind.behind.now = grind (arith, nat_tests) in
    let split = c.split_at-in-loop-behind in
    let e = c.link_behind-strand.ensures in
    extending-next c.args.self.now c.loop-behind.self c.link_behind-strand.new.self c.args.strand c.loop-behind.strand
    c.link_behind-strand.result c.args.text.now c.loop-behind.behind.now split.result.0.now split.result.1.now
    c.loop-behind.invariant some (sym split.ensures.by_index.0) (split.ensures.front_len ∙ c.min-in-loop-behind.ensures)
    e.extended e.chunks e.sum

pub returns-clause-longer : goal.returns-clause-longer
returns-clause-longer c =
    let none : length c.loop-behind.behind.now ≡ 0 = grind (arith, nat_tests) in
    extending-last c.args.self.now c.loop-behind.self c.args.strand c.loop-behind.strand c.args.text.now
    c.loop-behind.behind.now c.loop-behind.invariant none
