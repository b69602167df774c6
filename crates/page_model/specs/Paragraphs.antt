-- What a paragraph writes: its lines, each the longest front of the words that remain, laid out one
-- after another (manual, section 4.1).
--
-- Lines are the newest first, as words are.
use Rattle.std.specs.Prelude.{true, false, List, [], ◌∷◌, map, if◌then◌else◌}
use Rattle.std.specs.List.{cons_option}
use Rattle.page_model.specs.declared.settings.Settings.{Settings}
use Rattle.page_model.specs.Settings.{initial_settings, fills}
use Rattle.page_model.specs.Events.{LineEnd, Break, History, settings_after}
use Rattle.page_model.specs.Fitting.{Word}
use Rattle.page_model.specs.Lines.{Finished, line_laid_out, finished_in}

-- the lines that a history finishes
abbrev pub finished_lines : History → List Finished
finished_lines [] = []
finished_lines (e ∷ h) = cons_option (finished_in h e) (finished_lines h)

-- the history up to its last break; where words aren't measured, a line's end is one
abbrev pub until_break : History → History
until_break [] = []
until_break (LineEnd ∷ h) = if fills (settings_after h) then until_break h else LineEnd ∷ h
until_break (Break ∷ h) = Break ∷ h
until_break (_ ∷ h) = until_break h

-- what was in force as a line's first word ended
abbrev pub begun_under : List Word → Settings
begun_under [] = initial_settings
begun_under (w ∷ []) = w.under
begun_under (w ∷ v ∷ line) = begun_under (v ∷ line)

-- the lines of a paragraph but the last, laid out: each as the first word of the next one ended, which
-- didn't fit
abbrev pub full_lines : List (List Word) → List Finished
full_lines [] = []
full_lines (last ∷ []) = []
full_lines (next ∷ line ∷ lines) = line_laid_out (begun_under next) true line ∷ full_lines (line ∷ lines)

-- all its lines, laid out: the last one by a break, under what is in force then
abbrev pub broken_lines : Settings → List (List Word) → List Finished
broken_lines s [] = []
broken_lines s (last ∷ lines) = line_laid_out s false last ∷ full_lines (last ∷ lines)

-- the same where nothing changes within the paragraph
abbrev pub paragraph_lines : Settings → List (List Word) → List Finished
paragraph_lines s [] = []
paragraph_lines s (last ∷ lines) = line_laid_out s false last ∷ map (line_laid_out s true) lines
