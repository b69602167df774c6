use Rattle.std.proofs.Common.{◌≡◌, rules, slice_get, Some, None, sym}
use Rattle.roff_num.specs.Names.{name_of}
use Rattle.input_arguments.specs.ArgumentList.{listed}
use Rattle.read_registers.specs.Lasting.{capped_of}
use Rattle.run_model.specs.Requests.Numbering.{name_given}
use Rattle.read_obeying.proofs.RemovedRegisters.{Removed-named, Removed-unnamed, Removed-past}
use Rattle.read_obeying.proofs.registers.remove_given.Goals.{in-Some+in-Some-name_given, in-Some+in_default-name_given, in_default}
use Rattle.read_obeying.proofs.registers.remove_given.Goals as goal

pub loop-index-preserved : goal.loop-index-preserved
loop-index-preserved c =
    let n = c.loop-index.index in
    let texts = listed c.args.arguments in
    let old = c.args.lasting.now in
    let kept = c.loop-index.lasting-inside in
    let now = capped_of kept.registers kept.titles kept.last_macro in
    elim c.match-get.branch [
      | in-Some+in-Some-name_given w ↦
          let text = w.in-Some.text.now in
          let is : slice_get texts n ≡ Some text = sym w.in-Some.ensures in
          let named : name_of (name_given text) ≡ Some w.in-Some-name_given.name = sym w.in-Some-name_given.ensures in
          rw w.lasting-inside-is (Removed-named n texts old now (capped_of w.remove.new.self kept.titles kept.last_macro) text w.in-Some-name_given.name c.loop-index.invariant is named (w.remove.ensures kept.titles kept.last_macro))
      | in-Some+in_default-name_given w ↦
          let text = w.in-Some.text.now in
          let is : slice_get texts n ≡ Some text = sym w.in-Some.ensures in
          let unnamed : name_of (name_given text) ≡ None = search rules in
          rw w.lasting-inside-is (Removed-unnamed n texts old now text c.loop-index.invariant is unnamed)
      | in_default w ↦
          let past : slice_get texts n ≡ None = search rules in
          rw w.lasting-inside-is (Removed-past n texts old now c.loop-index.invariant past)
    ]
