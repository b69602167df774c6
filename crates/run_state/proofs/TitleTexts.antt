-- Bytes that are added to a title, one behind another.
use Rattle.std.proofs.Common.{◌≡◌, ℕ, ◌+◌, List, [], ◌++◌, length, refl, ap, ◌∙◌, arith, append-nil, append_assoc, length-append}
use Rattle.run_model.specs.TitleTexts.{TitleText, added_to, title_length, with_bytes}
use Rattle.run_model.specs.declared.title.TitlePart.{TitlePart}
use Rattle.run_model.specs.declared.title.TitlePart.TheVariants.{Left, Centre, Right}

-- a title has so many bytes more
added_length : (part : TitlePart) (bytes : List ℕ) (t : TitleText) → title_length (added_to part bytes t) ≡ title_length t + length bytes
added_length Left bytes t = omega (arith, length-append t.left bytes)
added_length Centre bytes t = omega (arith, length-append t.centre bytes)
added_length Right bytes t = omega (arith, length-append t.right bytes)

pub bytes_added_length : (bytes : List ℕ) (t : TitleText) → title_length (with_bytes bytes t) ≡ title_length t + length bytes
bytes_added_length bytes t = added_length t.part bytes t

-- none
added_none : (part : TitlePart) (t : TitleText) → added_to part [] t ≡ t
added_none Left t = ap (λ (left : List ℕ). record t { left = left }) (append-nil t.left)
added_none Centre t = ap (λ (centre : List ℕ). record t { centre = centre }) (append-nil t.centre)
added_none Right t = ap (λ (right : List ℕ). record t { right = right }) (append-nil t.right)

pub none_added : (t : TitleText) → with_bytes [] t ≡ t
none_added t = added_none t.part t

-- those of one part keep it, and more are added behind them
by_part : (part : TitlePart) (first second : List ℕ) (t : TitleText) → t.part ≡ part
    → with_bytes second (added_to part first t) ≡ added_to part (first ++ second) t
by_part Left first second t is =
    ap (λ (p : TitlePart). added_to p second (record t { left = t.left ++ first })) is
    ∙ ap (λ (left : List ℕ). record t { left = left }) (append_assoc t.left first second)
by_part Centre first second t is =
    ap (λ (p : TitlePart). added_to p second (record t { centre = t.centre ++ first })) is
    ∙ ap (λ (centre : List ℕ). record t { centre = centre }) (append_assoc t.centre first second)
by_part Right first second t is =
    ap (λ (p : TitlePart). added_to p second (record t { right = t.right ++ first })) is
    ∙ ap (λ (right : List ℕ). record t { right = right }) (append_assoc t.right first second)

pub bytes_added_again : (first second : List ℕ) (t : TitleText) → with_bytes second (with_bytes first t) ≡ with_bytes (first ++ second) t
bytes_added_again first second t = by_part t.part first second t refl
