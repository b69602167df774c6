use Rattle.std.proofs.Common.{◌<◌, rules, inl, inr, arith, refl}
use Rattle.std.proofs.lemmas.Bool.{cases_Bool}
use Rattle.input_model.specs.Input.{events_ahead, most_events}
use Rattle.roff_scan.proofs.unread.Unread.put_back.Goals as goal

pub invariant_of-self : goal.invariant_of-self
invariant_of-self g c =
    elim (cases_Bool c.put_back-room.result) [
      | inl t ↦ let put = c.put_back-room.ensures.put t in search rules
      | inr f ↦ let same = c.put_back-room.ensures.unchanged f in search rules
    ]

pub returns : goal.returns
returns g c = record {
  change = λ few.
      let less = rw (← c.self.view_is) at few in
      let fewer : events_ahead c.self.inside.input_ahead.ahead < most_events c.self.inside.input_ahead.most_texts =
      omega (arith, less, c.self.invariant.texts) in
      let put = c.put_back-room.ensures.put (c.put_back-room.ensures.room fewer) in
      rw (← c.self.view_is, put) refl;
}
