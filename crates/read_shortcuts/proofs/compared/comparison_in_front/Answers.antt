use Rattle.std.proofs.Common.{rules, ◌≡◌, ◌≤◌, get_or, length}
use Rattle.input_source.specs.Bytes.{blank}
use Rattle.read_shortcuts.proofs.ComparedFronts.{compares-front, compares-negated}
use Rattle.read_shortcuts.proofs.compared.comparison_in_front.Goals as goal

pub returns-in-32 : goal.returns-in-32
returns-in-32 g c =
    let all = c.front.result.now in
    let fourth : get_or all 3 0 ≡ blank = search rules in
    let fifth : get_or all 4 0 ≡ 33 = search rules in
    compares-negated c.comparison.result c.args.unread.now (g.S.ByteSource.ready c.args.source.now) all c.in-32.len_at_least fourth fifth
    c.front.ensures.bytes c.front.ensures.front c.comparison.ensures

pub returns-in-32-2 : goal.returns-in-32-2
returns-in-32-2 g c =
    let all = c.front.result.now in
    let many : 4 ≤ length all = search rules in
    let fourth : get_or all 3 0 ≡ blank = search rules in
    compares-front c.comparison-in-32-2.result c.args.unread.now (g.S.ByteSource.ready c.args.source.now) all many fourth
    c.front.ensures.bytes c.front.ensures.front c.comparison-in-32-2.ensures
