use Rattle.std.proofs.Common.{◌&&◌, Bool, subst}
use Rattle.run_model.specs.Requests.{Response, row_of}
use Rattle.run_model.specs.Requests.Effects.{meant_by}
use Rattle.read_obeying.specs.Acting.{DoesEffect, Kept, kept, texts_read}
use Rattle.read_requests.specs.Request.Coded.{response_of}
use Rattle.read_obeying.proofs.acting.act_on_arguments.Goals as goal

pub returns : goal.returns
returns c =
    let old : Kept = kept c.args.lasting.now c.args.meaning.now in
    let u = c.args.unread.now in
    let does : Bool → Response → Type 0 = λ b r. DoesEffect (meant_by b r) old (kept c.respond.new.lasting c.respond.new.meaning) u c.respond.new.unread c.respond.result in record {
      acts = λ l h stands.
          subst (does (c.args.breaks && (row_of c.args.request).breaks)) (c.response_to-response.ensures l h stands)
          (subst (λ (b : Bool). does b (response_of (texts_read u) c.response_to-response.result)) c.breaks_by-breaks.ensures c.respond.ensures);
    }
