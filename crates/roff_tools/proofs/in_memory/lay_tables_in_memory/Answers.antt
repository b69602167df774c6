use Rattle.std.proofs.lemmas.Result.{IfOk-weaker}
use Rattle.cli_devices.specs.Memory.{tape_of_bytes}
use Rattle.roff_tools.proofs.InMemory.{begins, first_bytes, tables_ran, tbl_due_of, whole_tables}
use Rattle.roff_tools.proofs.in_memory.lay_tables_in_memory.Goals as goal

pub returns-clause-whole : goal.returns-clause-whole
returns-clause-whole c = λ output_fits messages_fit.
    let t = tape_of_bytes c.args.text.now c.args.fail_at in
    IfOk-weaker c.run_in_memory.result _ _ (λ f ran. whole_tables c.args.limits c.args.line_length t c.args.room f (tables_ran c.args.limits c.args.line_length t c.args.room f ran) output_fits messages_fit) c.run_in_memory.ensures

pub returns-clause-output : goal.returns-clause-output
returns-clause-output c = λ messages_fit.
    let t = tape_of_bytes c.args.text.now c.args.fail_at in
    IfOk-weaker c.run_in_memory.result _ _ (λ f ran. first_bytes (tbl_due_of c.args.limits c.args.line_length t) c.args.room f (tables_ran c.args.limits c.args.line_length t c.args.room f ran) messages_fit) c.run_in_memory.ensures

pub returns-clause-beginning : goal.returns-clause-beginning
returns-clause-beginning c =
    let t = tape_of_bytes c.args.text.now c.args.fail_at in
    IfOk-weaker c.run_in_memory.result _ _ (λ f ran. begins (tbl_due_of c.args.limits c.args.line_length t) c.args.room f (tables_ran c.args.limits c.args.line_length t c.args.room f ran)) c.run_in_memory.ensures
