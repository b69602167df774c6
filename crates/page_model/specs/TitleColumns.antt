-- Where the parts of a title stand (manual, section 14).
use Rattle.std.specs.Prelude.{ℕ, ◌+◌, ◌-◌, ◌/◌, max, List, [], ◌∷◌}

-- the column of the centre part, behind what ends at another one
abbrev pub centre_column : ℕ → ℕ → ℕ → ℕ
centre_column length width end = max ((length - width) / 2) end

-- the column of the right part
abbrev pub right_column : ℕ → ℕ → ℕ → ℕ
right_column length width end = max (length - width) end

-- the columns at which the left, the centre and the right part of a title stand, told their widths; a part
-- that is empty has its place too
abbrev pub title_columns : ℕ → ℕ → ℕ → ℕ → List ℕ
title_columns length left centre right =
    let centre_at = centre_column length centre left in
    0 ∷ (centre_at ∷ (right_column length right (centre_at + centre) ∷ []))
