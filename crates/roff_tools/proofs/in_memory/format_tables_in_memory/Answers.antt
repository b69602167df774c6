use Rattle.std.proofs.lemmas.Result.{IfOk-weaker}
use Rattle.cli_devices.specs.Memory.{tape_of_bytes}
use Rattle.tbl_core.specs.Yields.{at_start, yields}
use Rattle.roff_tools.proofs.InMemory.{begins, both_ran, due_of, first_bytes, whole_result}
use Rattle.roff_tools.proofs.in_memory.format_tables_in_memory.Goals as goal

pub returns-clause-whole : goal.returns-clause-whole
returns-clause-whole c = λ output_fits messages_fit.
    let t = tape_of_bytes c.args.text.now c.args.fail_at in
    IfOk-weaker c.run_in_memory.result _ _ (λ f ran. whole_result c.args.limits c.args.start (yields c.args.tables.0 c.args.tables.1 at_start t) c.args.room f (both_ran c.args.limits c.args.start c.args.tables.0 c.args.tables.1 t c.args.room f ran) output_fits messages_fit) c.run_in_memory.ensures

pub returns-clause-output : goal.returns-clause-output
returns-clause-output c = λ messages_fit.
    let t = tape_of_bytes c.args.text.now c.args.fail_at in
    IfOk-weaker c.run_in_memory.result _ _ (λ f ran. first_bytes (due_of c.args.limits c.args.start (yields c.args.tables.0 c.args.tables.1 at_start t)) c.args.room f (both_ran c.args.limits c.args.start c.args.tables.0 c.args.tables.1 t c.args.room f ran) messages_fit) c.run_in_memory.ensures

pub returns-clause-beginning : goal.returns-clause-beginning
returns-clause-beginning c =
    let t = tape_of_bytes c.args.text.now c.args.fail_at in
    IfOk-weaker c.run_in_memory.result _ _ (λ f ran. begins (due_of c.args.limits c.args.start (yields c.args.tables.0 c.args.tables.1 at_start t)) c.args.room f (both_ran c.args.limits c.args.start c.args.tables.0 c.args.tables.1 t c.args.room f ran)) c.run_in_memory.ensures
