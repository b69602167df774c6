use Rattle.law_runs.proofs.PageRuns.{writes_whole_pages}
use Rattle.law_runs.proofs.page_laws.full_pages.Goals as goal

pub returns : goal.returns
returns c = writes_whole_pages
