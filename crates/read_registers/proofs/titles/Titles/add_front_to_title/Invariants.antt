use Rattle.std.proofs.Common.{◌-◌, ◌≡◌, ◌≤◌, map, take}
use Rattle.std.specs.List.{AllByRecursion}
use Rattle.read_registers.specs.Titles.Fronts.{IsPlain, kept_byte}
use Rattle.run_model.specs.TitleTexts.{with_bytes}
use Rattle.read_registers.proofs.titles.Titles.add_front_to_title.Given as goal

abbrev pub invariant-loop-count : goal.invariant-loop-count
invariant-loop-count l =
    (l.count ≤ l.most)
    × (AllByRecursion (IsPlain l.fn.delimiter) (take l.count l.fn.front))
    × (l.title.text ≡ with_bytes (map (kept_byte l.fn.self.page_character) (take l.count l.fn.front)) l.fn.self.title)
    × (l.title.room ≡ l.fn.self.line)

abbrev pub decreases-loop-count : goal.decreases-loop-count
decreases-loop-count l = l.most - l.count
