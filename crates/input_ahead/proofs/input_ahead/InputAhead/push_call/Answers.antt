use Rattle.std.proofs.Common.{◌≡◌, ◌-◌, ℕ, List, ◌∷◌, ◌++◌, length, map, arith, refl, sym, ap, ◌∙◌}
use Rattle.input_source.specs.Bytes.{newline}
use Rattle.input_ahead.specs.InputAhead.Kept.{AheadAndTexts}
use Rattle.input_model.specs.Input.{Ahead, ByteAhead, ReturnAhead}
use Rattle.input_ahead.proofs.Bodies.{bytes-with_bodies, ends-with_bodies}
use Rattle.input_ahead.proofs.Framing.{IsSound-byte, IsSound-returning, called-in-front, called-len, called-whole}
use Rattle.input_ahead.proofs.input_ahead.InputAhead.push_call.Goals as goal
use Rattle.roff_store.specs.Texts.{body_of}

pub push_return-requires : goal.push_return-requires
push_return-requires g c =
    let few = rw (← c.self.view_is) at c.requires.ends in
    omega (arith, few, ends-with_bodies c.self.inside.texts c.self.inside.pushed_texts.ahead)

pub push_byte-requires-clause-some : goal.push_byte-requires-clause-some
push_byte-requires-clause-some g c = rw c.push_return.ensures refl

pub push_byte-requires-clause-room : goal.push_byte-requires-clause-room
push_byte-requires-clause-room g c =
    let inside = c.self.inside in
    let lacks = rw (← c.self.view_is) at (sym c.requires.lacks ∙ c.if-called.true) in
    let fits = rw (← c.self.view_is) at c.requires.bytes in
    let len = called-len (body_of c.args.name.now inside.texts) lacks in
    rw c.push_return.ensures (omega (arith, fits, len, bytes-with_bodies inside.texts inside.pushed_texts.ahead))

pub overflow_sub-called : goal.overflow_sub-called
overflow_sub-called g c =
    let lacks = sym c.requires.lacks ∙ c.if-called.true in
    let len = called-len (body_of c.args.name.now c.args.self.now.texts) lacks in
    omega (arith, len, c.requires.len)

pub put_body-requires-clause-len : goal.put_body-requires-clause-len
put_body-requires-clause-len g c =
    let lacks = sym c.requires.lacks ∙ c.if-called.true in
    let len = called-len (body_of c.args.name.now c.args.self.now.texts) lacks in
    let count : c.args.called.len - 1 ≡ length (body_of c.args.name.now c.args.self.now.texts) =
    omega (arith, len, c.requires.len) in
    rw (← c.self.view_is) at count

pub put_body-requires-clause-sound : goal.put_body-requires-clause-sound
put_body-requires-clause-sound g c =
    let inside = c.self.inside in
    let lacks = rw (← c.self.view_is) at (sym c.requires.lacks ∙ c.if-called.true) in
    let fits = rw (← c.self.view_is) at c.requires.bytes in
    let few = rw (← c.self.view_is) at c.requires.ends in
    let len = called-len (body_of c.args.name.now inside.texts) lacks in
    let returning = record inside { pushed_texts = record inside.pushed_texts { ahead = ReturnAhead c.args.back ∷ inside.pushed_texts.ahead } } in
    rw (c.push_byte.ensures, c.push_return.ensures)
    (IsSound-byte returning newline (IsSound-returning c.args.back inside c.self.invariant few) (omega (arith, fits, len)))

pub put_body-requires-clause-end : goal.put_body-requires-clause-end
put_body-requires-clause-end g c = rw (c.push_byte.ensures, c.push_return.ensures) refl

pub put_body-requires-clause-bytes : goal.put_body-requires-clause-bytes
put_body-requires-clause-bytes g c =
    let inside = c.self.inside in
    let lacks = rw (← c.self.view_is) at (sym c.requires.lacks ∙ c.if-called.true) in
    let fits = rw (← c.self.view_is) at c.requires.bytes in
    let len = called-len (body_of c.args.name.now inside.texts) lacks in
    rw (c.push_byte.ensures, c.push_return.ensures) (omega (arith, fits, len))

pub invariant_of-self : goal.invariant_of-self
invariant_of-self g c = c.put_body.ensures.sound

pub returns-then-called : goal.returns-then-called
returns-then-called g c =
    let lacks = sym c.requires.lacks ∙ c.if-called.true in
    let put = rw (c.push_byte.ensures, c.push_return.ensures) at c.put_body.ensures.kept in
    let name = c.args.name.now in
    let viewed =
    ap (λ (f : AheadAndTexts _). record f { ahead = map ByteAhead (body_of name f.texts) ++ ByteAhead newline ∷ ReturnAhead c.args.back ∷ f.ahead })
    c.self.view_is in
    let whole = called-in-front (body_of name c.args.self.now.texts) (ReturnAhead c.args.back ∷ c.args.self.now.ahead) lacks in
    put ∙ viewed ∙ ap (λ (items : List (Ahead _)). record c.args.self.now { ahead = items }) whole

pub put_body-requires-else-called-clause-len : goal.put_body-requires-else-called-clause-len
put_body-requires-else-called-clause-len g c =
    let ends = sym c.requires.lacks ∙ c.if-called.false in
    let whole = called-whole (body_of c.args.name.now c.args.self.now.texts) ends in
    rw (← c.self.view_is) at (c.requires.len ∙ ap length whole)

pub put_body-requires-else-called-clause-sound : goal.put_body-requires-else-called-clause-sound
put_body-requires-else-called-clause-sound g c =
    let few = rw (← c.self.view_is) at c.requires.ends in
    rw c.push_return.ensures (IsSound-returning c.args.back c.self.inside c.self.invariant few)

pub put_body-requires-else-called-clause-end : goal.put_body-requires-else-called-clause-end
put_body-requires-else-called-clause-end g c = rw c.push_return.ensures refl

pub put_body-requires-else-called-clause-bytes : goal.put_body-requires-else-called-clause-bytes
put_body-requires-else-called-clause-bytes g c =
    let whole = rw (← c.self.view_is) at (sym c.requires.lacks ∙ c.if-called.false) in
    let fits = rw (← c.self.view_is) at c.requires.bytes in
    let len = ap length (called-whole (body_of c.args.name.now c.self.inside.texts) whole) in
    rw c.push_return.ensures (omega (arith, fits, len))

pub invariant_of-self-else-called : goal.invariant_of-self-else-called
invariant_of-self-else-called g c = c.put_body-else-called.ensures.sound

pub returns-else-called : goal.returns-else-called
returns-else-called g c =
    let name = c.args.name.now in
    let ends = sym c.requires.lacks ∙ c.if-called.false in
    let whole = called-whole (body_of name c.args.self.now.texts) ends in
    let put = rw c.push_return.ensures at c.put_body-else-called.ensures.kept in
    let viewed =
    ap (λ (f : AheadAndTexts _). record f { ahead = map ByteAhead (body_of name f.texts) ++ ReturnAhead c.args.back ∷ f.ahead }) c.self.view_is in
    let old = c.args.self.now in
    put ∙ viewed ∙ ap (λ (text : List ℕ). record old { ahead = map ByteAhead text ++ ReturnAhead c.args.back ∷ old.ahead }) (sym whole)
