-- Why a command can't start: as memory is missing, or by what was asked for.
use Rattle.std.proofs.Common.{ℕ, List, Option, Some, None, Result, Ok, Err, map, refl, subst}
use Rattle.clap.specs.Words.{Row, Text}
use Rattle.roff_num.specs.declared.num.Num.{Num}
use Rattle.cli_words.specs.CommandLine.{AsksFor, files_asked}
use Rattle.cli_words.specs.PagesAsked.{pages_asked, told_pages}
use Rattle.cli_words.specs.RegistersAsked.{registers_asked, told}
use Rattle.cli_words.specs.declared.request.Request.{Request}
use Rattle.roff_tools.specs.Program.{NamesStart}
use Rattle.roff_tools.specs.StartFault.{NamesBad, NamesFirstRefused}
use Rattle.roff_tools.specs.declared.fault.StartFault.{StartFault}
use Rattle.roff_tools.specs.declared.fault.StartFault.TheVariants.{OutOfMemory}

-- memory may be missing whatever is asked for
no_memory_bad : {F S : Type 0} (opens : List ℕ → F → Type 0) (refuses : List ℕ → Type 0) (stands : S → Type 0) (names : List (List ℕ))
    (pages : Result (List (Num × Num)) (List ℕ)) (registers : Result (List (ℕ × Num)) (List ℕ))
    → NamesBad pages registers (NamesFirstRefused opens refuses stands names) OutOfMemory
no_memory_bad opens refuses stands names (Err text) registers = tt
no_memory_bad opens refuses stands names (Ok pages) (Err text) = tt
no_memory_bad opens refuses stands names (Ok pages) (Ok registers) = tt

pub no_memory_names : {F S : Type 0} (opens : List ℕ → F → Type 0) (refuses : List ℕ → Type 0) (stands : S → Type 0) (found : Option (Text × List Row))
    → NamesStart opens refuses stands found OutOfMemory
no_memory_names opens refuses stands None = refl
no_memory_names opens refuses stands (Some (name, rows)) = no_memory_bad opens refuses stands (files_asked rows) (pages_asked rows) (registers_asked rows)

-- what a request's list of pages, its registers and its files say is what those of its words do
pub request_names : {F S : Type 0} (opens : List ℕ → F → Type 0) (refuses : List ℕ → Type 0) (stands : S → Type 0) (found : Option (Text × List Row))
    (request : Request) (fault : StartFault) → AsksFor found request
    → NamesBad (told_pages request.pages) (told request.registers) (NamesFirstRefused opens refuses stands (map (λ name. name.now) request.files.items)) fault
    → NamesStart opens refuses stands found fault
request_names opens refuses stands None request fault asks bad = absurd asks
request_names opens refuses stands (Some (name, rows)) request fault asks bad =
    let files : List (List ℕ) = map (λ name. name.now) request.files.items in
    let listed = subst (λ (pages : Result (List (Num × Num)) (List ℕ)). NamesBad pages (told request.registers) (NamesFirstRefused opens refuses stands files) fault) asks.pages bad in
    let set = subst (λ (registers : Result (List (ℕ × Num)) (List ℕ)). NamesBad (pages_asked rows) registers (NamesFirstRefused opens refuses stands files) fault) asks.registers listed in
    subst (λ (names : List (List ℕ)). NamesBad (pages_asked rows) (registers_asked rows) (NamesFirstRefused opens refuses stands names) fault) asks.files set
