use Rattle.std.proofs.Common.{drop, take, arith, sym, length-take-le}
use Rattle.input_source.specs.Bytes.{is_passed}
use Rattle.input_ahead.proofs.BodyTaken.{bytes-in-front, gives, with_body-first, IsSound-passed, taken-passed}
use Rattle.input_source.proofs.PlainBytes.{take_while-plain}
use Rattle.input_ahead.proofs.input_ahead.InputAhead.pass_over.Goals as goal
use Rattle.roff_store.specs.Texts.{lease_bytes, lease_of}

pub invariant_of-self : goal.invariant_of-self
invariant_of-self g c =
    let inside = c.self.inside in
    let lease = c.in-Some-Do-Body.lease in
    let count = c.passed_of-passed.result in
    let given = c.lease_front.result.now in
    let front = rw (c.in-Some-Do-Body.field-0-is, c.in-Some-Do-Body.field-0-0-is) at c.in-Some-Do-Body.ensures in
    let behind = record inside.pushed_texts { ahead = drop 1 inside.pushed_texts.ahead } in
    let whole = with_body-first inside.pushed_texts lease front in
    let bytes = bytes-in-front count given (lease_bytes (lease_of lease.0 inside.texts)) c.lease_front.ensures.bytes c.passed_of-passed.ensures.among in
    rw c.lease_pass.ensures (IsSound-passed inside.texts inside.pushed_texts behind lease whole c.self.invariant count (take count given) bytes
    (omega (arith, c.min-most.ensures, c.lease_rest.ensures, c.passed_of-passed.ensures.within, gives inside.texts inside.pushed_texts behind lease whole c.self.invariant)))

pub returns-in-Some-Do-Body : goal.returns-in-Some-Do-Body
returns-in-Some-Do-Body g c =
    let inside = c.self.inside in
    let lease = c.in-Some-Do-Body.lease in
    let count = c.passed_of-passed.result in
    let given = c.lease_front.result.now in
    let passed = c.passed_of-passed.ensures in
    let front = rw (c.in-Some-Do-Body.field-0-is, c.in-Some-Do-Body.field-0-0-is) at c.in-Some-Do-Body.ensures in
    let behind = record inside.pushed_texts { ahead = drop 1 inside.pushed_texts.ahead } in
    let whole = with_body-first inside.pushed_texts lease front in
    let bytes = bytes-in-front count given (lease_bytes (lease_of lease.0 inside.texts)) c.lease_front.ensures.bytes passed.among in
    record {
      bytes = take count given;
      taken = rw c.lease_pass.ensures
          (taken-passed inside.texts inside.pushed_texts behind lease whole c.self.invariant count (take count given) bytes c.args.self.now c.self.view_is);
      plain = rw passed.passed (take_while-plain (is_passed c.args.within_block) (take c.min-most.result given));
      length_is = sym (length-take-le count given passed.among);
      few = omega (arith, c.min-most.ensures, passed.within);
    }
