use Rattle.std.proofs.Common.{◌≡◌, ◌≤◌, ℕ, List, true, false, ◌∷◌, ◌++◌, length, map, arith, refl, sym, ap, subst, ◌∙◌}
use Rattle.input_source.specs.Bytes.{newline}
use Rattle.input_ahead.specs.InputAhead.Calls.{PutsBytes}
use Rattle.input_ahead.specs.InputAhead.Kept.{AheadAndTexts}
use Rattle.input_model.specs.Input.{Ahead, ByteAhead, ReturnAhead}
use Rattle.input_model.specs.Input.Calls.{called_text, lacks_newline}
use Rattle.input_ahead.specs.declared.input_ahead.InputAhead.TheInside.{Inside}
use Rattle.input_ahead.proofs.Bodies.{bytes-with_bodies, ends-with_bodies}
use Rattle.input_ahead.proofs.Framing.{IsSound-byte, IsSound-returning, called-in-front, called-len, called-whole}
use Rattle.input_ahead.proofs.Pushed.{PutsBytes-leased, room-for-mark, room-for-most, room-for-one}
use Rattle.input_ahead.proofs.input_ahead.InputAhead.call.Goals as goal
use Rattle.roff_store.specs.Texts.{body_of}

pub lease_within-requires-clause-fewer : goal.lease_within-requires-clause-fewer
lease_within-requires-clause-fewer g c =
    room-for-one c.self.inside c.self.invariant (rw (← c.self.view_is) at c.requires.ends)

pub lease_within-requires-clause-room : goal.lease_within-requires-clause-room
lease_within-requires-clause-room g c =
    let room = room-for-most c.self.inside c.self.invariant c.args.most (rw (← c.self.view_is) at c.requires.bytes) in
    omega (arith, room, c.saturating_sub.ensures)

pub push_return-requires : goal.push_return-requires
push_return-requires g c =
    let few = rw (← c.self.view_is) at c.requires.ends in
    omega (arith, few, ends-with_bodies c.self.inside.texts c.self.inside.pushed_texts.ahead)

pub push_byte-requires-clause-room : goal.push_byte-requires-clause-room
push_byte-requires-clause-room g c =
    let inside = c.self.inside in
    let fits = rw (← c.self.view_is) at c.requires.bytes in
    let some = c.in-Body.ensures.long in
    let short = c.in-Body.ensures.short in
    rw c.push_return.ensures
    (omega (arith, fits, some, short, c.saturating_sub.ensures, bytes-with_bodies inside.texts inside.pushed_texts.ahead))

pub put_back-requires : goal.put_back-requires
put_back-requires g c =
    let inside = c.self.inside in
    let name = c.args.name.now in
    let fits = rw (← c.self.view_is) at c.requires.bytes in
    let few = rw (← c.self.view_is) at c.requires.ends in
    let some = c.in-Body.ensures.long in
    let short = c.in-Body.ensures.short in
    let returning : Inside _ = record inside { pushed_texts = record inside.pushed_texts { ahead = ReturnAhead c.args.back ∷ inside.pushed_texts.ahead } } in
    let sound = IsSound-returning c.args.back inside c.self.invariant few in
    let lined : Inside _ = record inside { pushed_texts = record inside.pushed_texts { ahead = ByteAhead newline ∷ ReturnAhead c.args.back ∷ inside.pushed_texts.ahead } } in
    let sounder = IsSound-byte returning newline sound (omega (arith, fits, some, short, c.saturating_sub.ensures)) in
    rw (c.push_byte.ensures, c.push_return.ensures) (room-for-mark lined sounder name refl (omega (arith, fits, some, short, c.saturating_sub.ensures)))

pub invariant_of-self : goal.invariant_of-self
invariant_of-self g c =
    let inside = c.self.inside in
    let name = c.args.name.now in
    let fits = rw (← c.self.view_is) at c.requires.bytes in
    let few = rw (← c.self.view_is) at c.requires.ends in
    let some = c.in-Body.ensures.long in
    let short = c.in-Body.ensures.short in
    let returning : Inside _ = record inside { pushed_texts = record inside.pushed_texts { ahead = ReturnAhead c.args.back ∷ inside.pushed_texts.ahead } } in
    let sound = IsSound-returning c.args.back inside c.self.invariant few in
    let lined : Inside _ = record inside { pushed_texts = record inside.pushed_texts { ahead = ByteAhead newline ∷ ReturnAhead c.args.back ∷ inside.pushed_texts.ahead } } in
    let sounder = IsSound-byte returning newline sound (omega (arith, fits, some, short, c.saturating_sub.ensures)) in
    rw (c.put_back.ensures, c.push_byte.ensures, c.push_return.ensures, c.in-Body.ensures.leased)
    (PutsBytes-leased lined sounder name refl (omega (arith, fits, some, short, c.saturating_sub.ensures)) some c.in-Body.lease c.in-Body.ensures.number).sound

pub returns-then-lacks_newline : goal.returns-then-lacks_newline
returns-then-lacks_newline g c =
    let inside = c.self.inside in
    let name = c.args.name.now in
    let body = body_of name inside.texts in
    let fits = rw (← c.self.view_is) at c.requires.bytes in
    let few = rw (← c.self.view_is) at c.requires.ends in
    let some = c.in-Body.ensures.long in
    let short = c.in-Body.ensures.short in
    let returning : Inside _ = record inside { pushed_texts = record inside.pushed_texts { ahead = ReturnAhead c.args.back ∷ inside.pushed_texts.ahead } } in
    let sound = IsSound-returning c.args.back inside c.self.invariant few in
    let lined : Inside _ = record inside { pushed_texts = record inside.pushed_texts { ahead = ByteAhead newline ∷ ReturnAhead c.args.back ∷ inside.pushed_texts.ahead } } in
    let sounder = IsSound-byte returning newline sound (omega (arith, fits, some, short, c.saturating_sub.ensures)) in
    let lacks : lacks_newline body ≡ true = sym (c.lacks_newline.ensures body c.in-Body.ensures.last_is) ∙ c.if-lacks_newline.true in
    let puts : PutsBytes lined (record { pushed_texts = c.put_back.new.self; texts = c.lease_within.new.self }) body =
    rw (c.put_back.ensures, c.push_byte.ensures, c.push_return.ensures, c.in-Body.ensures.leased)
    (PutsBytes-leased lined sounder name refl (omega (arith, fits, some, short, c.saturating_sub.ensures)) some c.in-Body.lease c.in-Body.ensures.number) in
    let viewed =
    ap (λ (f : AheadAndTexts _). record f { ahead = map ByteAhead (body_of name f.texts) ++ ByteAhead newline ∷ ReturnAhead c.args.back ∷ f.ahead })
    c.self.view_is in
    let lacks_now = subst (λ (f : AheadAndTexts _). lacks_newline (body_of name f.texts) ≡ true) c.self.view_is lacks in
    let whole = called-in-front (body_of name c.args.self.now.texts) (ReturnAhead c.args.back ∷ c.args.self.now.ahead) lacks_now in
    let shorter : length (called_text body) ≤ c.args.most =
    omega (arith, called-len body lacks, some, short, c.saturating_sub.ensures) in
    record {
      short = λ is. rw (← c.self.view_is) shorter;
      put = λ is. puts.kept ∙ viewed ∙ ap (λ (items : List (Ahead _)). record c.args.self.now { ahead = items }) whole;
      long = λ is. absurd (cc);
      unchanged = λ is. absurd (cc);
    }

pub put_back-requires-in-Body : goal.put_back-requires-in-Body
put_back-requires-in-Body g c =
    let inside = c.self.inside in
    let name = c.args.name.now in
    let fits = rw (← c.self.view_is) at c.requires.bytes in
    let few = rw (← c.self.view_is) at c.requires.ends in
    let some = c.in-Body.ensures.long in
    let short = c.in-Body.ensures.short in
    let returning : Inside _ = record inside { pushed_texts = record inside.pushed_texts { ahead = ReturnAhead c.args.back ∷ inside.pushed_texts.ahead } } in
    let sound = IsSound-returning c.args.back inside c.self.invariant few in
    rw c.push_return.ensures (room-for-mark returning sound name refl (omega (arith, fits, some, short, c.saturating_sub.ensures)))

pub invariant_of-self-in-Body : goal.invariant_of-self-in-Body
invariant_of-self-in-Body g c =
    let inside = c.self.inside in
    let name = c.args.name.now in
    let fits = rw (← c.self.view_is) at c.requires.bytes in
    let few = rw (← c.self.view_is) at c.requires.ends in
    let some = c.in-Body.ensures.long in
    let short = c.in-Body.ensures.short in
    let returning : Inside _ = record inside { pushed_texts = record inside.pushed_texts { ahead = ReturnAhead c.args.back ∷ inside.pushed_texts.ahead } } in
    let sound = IsSound-returning c.args.back inside c.self.invariant few in
    rw (c.put_back-in-Body.ensures, c.push_return.ensures, c.in-Body.ensures.leased)
    (PutsBytes-leased returning sound name refl (omega (arith, fits, some, short, c.saturating_sub.ensures)) some c.in-Body.lease c.in-Body.ensures.number).sound

pub push_return-requires-in-Nothing : goal.push_return-requires-in-Nothing
push_return-requires-in-Nothing g c =
    let few = rw (← c.self.view_is) at c.requires.ends in
    omega (arith, few, ends-with_bodies c.self.inside.texts c.self.inside.pushed_texts.ahead)

pub returns-else-lacks_newline : goal.returns-else-lacks_newline
returns-else-lacks_newline g c =
    let inside = c.self.inside in
    let name = c.args.name.now in
    let body = body_of name inside.texts in
    let fits = rw (← c.self.view_is) at c.requires.bytes in
    let few = rw (← c.self.view_is) at c.requires.ends in
    let some = c.in-Body.ensures.long in
    let short = c.in-Body.ensures.short in
    let returning : Inside _ = record inside { pushed_texts = record inside.pushed_texts { ahead = ReturnAhead c.args.back ∷ inside.pushed_texts.ahead } } in
    let sound = IsSound-returning c.args.back inside c.self.invariant few in
    let old = c.args.self.now in
    let ends : lacks_newline body ≡ false = sym (c.lacks_newline.ensures body c.in-Body.ensures.last_is) ∙ c.if-lacks_newline.false in
    let puts : PutsBytes returning (record { pushed_texts = c.put_back-in-Body.new.self; texts = c.lease_within.new.self }) body =
    rw (c.put_back-in-Body.ensures, c.push_return.ensures, c.in-Body.ensures.leased)
    (PutsBytes-leased returning sound name refl (omega (arith, fits, some, short, c.saturating_sub.ensures)) some c.in-Body.lease c.in-Body.ensures.number) in
    let viewed =
    ap (λ (f : AheadAndTexts _). record f { ahead = map ByteAhead (body_of name f.texts) ++ ReturnAhead c.args.back ∷ f.ahead }) c.self.view_is in
    let ends_now = subst (λ (f : AheadAndTexts _). lacks_newline (body_of name f.texts) ≡ false) c.self.view_is ends in
    let whole = called-whole (body_of name old.texts) ends_now in
    let shorter : length (called_text body) ≤ c.args.most =
    omega (arith, ap length (called-whole body ends), some, short, c.saturating_sub.ensures) in
    record {
      short = λ is. rw (← c.self.view_is) shorter;
      put = λ is.
          puts.kept ∙ viewed
          ∙ ap (λ (text : List ℕ). record old { ahead = map ByteAhead text ++ ReturnAhead c.args.back ∷ old.ahead }) (sym whole);
      long = λ is. absurd (cc);
      unchanged = λ is. absurd (cc);
    }
