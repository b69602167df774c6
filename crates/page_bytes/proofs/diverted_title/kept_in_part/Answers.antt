use Rattle.page_bytes.proofs.TitleBytes.{mark_kept}
use Rattle.page_bytes.proofs.diverted_title.kept_in_part.Goals as goal

pub returns-then-byte-eq-PAGE_NUMBER : goal.returns-then-byte-eq-PAGE_NUMBER
returns-then-byte-eq-PAGE_NUMBER c rest count =
    mark_kept c.args.number.now rest c.args.byte c.args.number_len count c.if-byte-eq-PAGE_NUMBER.true c.requires
