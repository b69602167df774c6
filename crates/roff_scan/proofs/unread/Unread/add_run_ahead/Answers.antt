use Rattle.std.proofs.Common.{◌≡◌, ◌+◌, ◌≤◌, length, take, ap, ◌∙◌, arith, length-take-le}
use Rattle.input_model.specs.Input.Names.{stored}
use Rattle.input_source.specs.Bytes.{is_text_byte}
use Rattle.roff_scan.specs.Unread.Calls.{next_bytes}
use Rattle.roff_scan.specs.Unread.Kept.{kept_by}
use Rattle.roff_scan.proofs.AddedBodies.{adds_body, body_no_newline, copy-first}
use Rattle.roff_scan.proofs.AddedFronts.{added-ok, plain_in_front}
use Rattle.roff_scan.proofs.PartsTaken.{begin}
use Rattle.roff_scan.proofs.Runs.{not_asked-ahead}
use Rattle.roff_scan.proofs.unread.Unread.add_run_ahead.Goals as goal

pub pass_front-requires-clause-plain : goal.pass_front-requires-clause-plain
pass_front-requires-clause-plain g c = λ none.
    let front = c.front_of-front.result.now in
    let count = c.text_in_front-count.result in
    let few = (begin is_text_byte front count c.text_in_front-count.ensures).few in
    let copied = c.copied-copy.ensures in
    let cut = copy-first front c.copied-copy.result c.at_most-2.result.now count few (rw (c.at_most.ensures) at copied) c.at_most-2.ensures in
    let ready = g.S.ByteSource.ready c.args.source.now in
    let among : length front ≤ length (next_bytes c.args.self.now.input.ahead c.args.self.now.looked ready) = rw (← c.self.view_is) c.front_of-front.ensures.among in
    let same : front ≡ take (length front) (next_bytes c.args.self.now.input.ahead c.args.self.now.looked ready) = rw (← c.self.view_is) c.front_of-front.ensures.bytes in
    body_no_newline c.args.self.now c.add.new.self ready front c.at_most-2.result.now count c.add.result c.add.ensures.change c.in-Ok.is
    among same cut few
    (plain_in_front front c.at_most-2.result.now count cut c.text_in_front-count.ensures)

pub returns-in-Ok-clause-takes : goal.returns-in-Ok-clause-takes
returns-in-Ok-clause-takes g c =
    let front = c.front_of-front.result.now in
    let count = c.text_in_front-count.result in
    let few = (begin is_text_byte front count c.text_in_front-count.ensures).few in
    let copied = c.copied-copy.ensures in
    let cut = copy-first front c.copied-copy.result c.at_most-2.result.now count few (rw (c.at_most.ensures) at copied) c.at_most-2.ensures in
    let ready = g.S.ByteSource.ready c.args.source.now in
    let among : length front ≤ length (next_bytes c.args.self.now.input.ahead c.args.self.now.looked ready) = rw (← c.self.view_is) c.front_of-front.ensures.among in
    let same : front ≡ take (length front) (next_bytes c.args.self.now.input.ahead c.args.self.now.looked ready) = rw (← c.self.view_is) c.front_of-front.ensures.bytes in
    adds_body c.args.self.now c.add.new.self ready front c.at_most-2.result.now count c.add.result c.add.ensures.change c.in-Ok.is
    among same cut few
    (g.S.ByteSource.gives c.args.source.now) (g.S.ByteSource.gives c.pass_front.new.source) c.pass_front.new.self
    (plain_in_front front c.at_most-2.result.now count cut c.text_in_front-count.ensures)
    (not_asked-ahead c.args.self.now c.requires) c.pass_front.ensures.passes

pub returns-in-Err-clause-takes : goal.returns-in-Err-clause-takes
returns-in-Err-clause-takes g c =
    let kept = kept_by c.self.inside in
    let front = c.front_of-front.result.now in
    let count = c.text_in_front-count.result in
    let few = (begin is_text_byte front count c.text_in_front-count.ensures).few in
    let copied = c.copied-copy.ensures in
    let cut = copy-first front c.copied-copy.result c.at_most-2.result.now count few (rw (c.at_most.ensures) at copied) c.at_most-2.ensures in
    let long : length c.at_most-2.result.now ≡ count = ap length cut ∙ length-take-le count front few in
    let fits : stored kept.input + length c.at_most-2.result.now ≤ kept.limits.store =
    omega (arith, long, few, c.front_of-front.ensures.few, c.min.ensures, c.min-most.ensures, c.stored.ensures, c.self.invariant.within.stored) in
    let ok = added-ok kept c.add.new.self c.at_most-2.result.now c.add.result (rw (← c.self.view_is) at c.add.ensures.change) c.self.invariant.within fits in
    absurd (let isnt = c.in-Err.is in cc)
