use Rattle.std.proofs.Common.{◌≤◌, [], ◌∷◌, ◌++◌, length, map, arith, refl, ap, ◌∙◌}
use Rattle.input_ahead.specs.InputAhead.Calls.{PutsBytes}
use Rattle.input_ahead.specs.InputAhead.Kept.{AheadAndTexts}
use Rattle.input_model.specs.Input.{ByteAhead, EndAhead}
use Rattle.input_ahead.specs.declared.input_ahead.InputAhead.TheInside.{Inside}
use Rattle.input_ahead.proofs.Bodies.{ends-with_bodies}
use Rattle.input_ahead.proofs.Framing.{IsSound-pushing}
use Rattle.input_ahead.proofs.Pushed.{PutsBytes-leased, room-for-mark, room-for-most, room-for-one}
use Rattle.input_ahead.proofs.input_ahead.InputAhead.push_body.Goals as goal
use Rattle.roff_store.specs.Texts.{body_of}

pub lease_within-requires-clause-fewer : goal.lease_within-requires-clause-fewer
lease_within-requires-clause-fewer g c =
    room-for-one c.self.inside c.self.invariant (rw (← c.self.view_is) at c.requires.ends)

pub lease_within-requires-clause-room : goal.lease_within-requires-clause-room
lease_within-requires-clause-room g c =
    room-for-most c.self.inside c.self.invariant c.args.most (rw (← c.self.view_is) at c.requires.bytes)

pub push_end-requires : goal.push_end-requires
push_end-requires g c =
    let few = rw (← c.self.view_is) at c.requires.ends in
    omega (arith, few, ends-with_bodies c.self.inside.texts c.self.inside.pushed_texts.ahead)

pub put_back-requires : goal.put_back-requires
put_back-requires g c =
    let inside = c.self.inside in
    let fits = rw (← c.self.view_is) at c.requires.bytes in
    let few = rw (← c.self.view_is) at c.requires.ends in
    let a : Inside _ = record inside { pushed_texts = record inside.pushed_texts { ahead = EndAhead ∷ inside.pushed_texts.ahead } } in
    rw c.push_end.ensures
    (room-for-mark a (IsSound-pushing inside [] c.self.invariant (omega (arith, c.self.invariant.bytes)) few) c.args.name.now refl
    (omega (arith, fits, c.in-Body.ensures.short)))

pub invariant_of-self : goal.invariant_of-self
invariant_of-self g c =
    let inside = c.self.inside in
    let fits = rw (← c.self.view_is) at c.requires.bytes in
    let few = rw (← c.self.view_is) at c.requires.ends in
    let a : Inside _ = record inside { pushed_texts = record inside.pushed_texts { ahead = EndAhead ∷ inside.pushed_texts.ahead } } in
    rw (c.put_back.ensures, c.push_end.ensures, c.in-Body.ensures.leased)
    (PutsBytes-leased a (IsSound-pushing inside [] c.self.invariant (omega (arith, c.self.invariant.bytes)) few) c.args.name.now refl
    (omega (arith, fits, c.in-Body.ensures.short)) c.in-Body.ensures.long c.in-Body.lease c.in-Body.ensures.number).sound

pub push_end-requires-in-Nothing : goal.push_end-requires-in-Nothing
push_end-requires-in-Nothing g c =
    let few = rw (← c.self.view_is) at c.requires.ends in
    omega (arith, few, ends-with_bodies c.self.inside.texts c.self.inside.pushed_texts.ahead)

pub returns-in-Body : goal.returns-in-Body
returns-in-Body g c =
    let inside = c.self.inside in
    let name = c.args.name.now in
    let fits = rw (← c.self.view_is) at c.requires.bytes in
    let few = rw (← c.self.view_is) at c.requires.ends in
    let a : Inside _ = record inside { pushed_texts = record inside.pushed_texts { ahead = EndAhead ∷ inside.pushed_texts.ahead } } in
    let puts : PutsBytes a (record { pushed_texts = c.put_back.new.self; texts = c.lease_within.new.self }) (body_of name inside.texts) =
    rw (c.put_back.ensures, c.push_end.ensures, c.in-Body.ensures.leased)
    (PutsBytes-leased a (IsSound-pushing inside [] c.self.invariant (omega (arith, c.self.invariant.bytes)) few) name refl
    (omega (arith, fits, c.in-Body.ensures.short)) c.in-Body.ensures.long c.in-Body.lease c.in-Body.ensures.number) in
    let viewed =
    ap (λ (f : AheadAndTexts _). record f { ahead = map ByteAhead (body_of name f.texts) ++ EndAhead ∷ f.ahead }) c.self.view_is in
    let short : length (body_of name inside.texts) ≤ c.args.most = c.in-Body.ensures.short in
    record {
      short = λ is. rw (← c.self.view_is) short;
      put = λ is. puts.kept ∙ viewed;
      long = λ is. absurd (cc);
      unchanged = λ is. absurd (cc);
    }
