use Rattle.std.proofs.Common.{Ok, refl, subst}
use Rattle.read_lines.specs.Reader.Springs.{Springs}
use Rattle.run_model.specs.declared.request.Called.{Called}
use Rattle.read_lines.proofs.reader.Reader.spring.Goals as goal

pub returns-in-Body : goal.returns-in-Body
returns-in-Body c =
    let done = c.spring_body in
    subst (λ (called : Called). Springs called c.args.self.now done.new.self c.args.unread.now done.new.unread done.result) c.in-Body.ensures done.ensures

pub returns-in-Request : goal.returns-in-Request
returns-in-Request c =
    let old = c.args.self.now in
    let u = c.args.unread.now in
    subst (λ (called : Called). Springs called old old u u (Ok tt)) c.in-Request.ensures (record { goes_on = refl; input = refl; reader = refl })

pub returns-in-Nothing : goal.returns-in-Nothing
returns-in-Nothing c =
    let old = c.args.self.now in
    let u = c.args.unread.now in
    subst (λ (called : Called). Springs called old old u u (Ok tt)) c.in-Nothing.ensures (record { goes_on = refl; input = refl; reader = refl })
