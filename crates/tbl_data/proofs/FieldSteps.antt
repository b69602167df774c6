-- The fields of a line, taken one after another.
use Rattle.std.proofs.Common.{◌≡◌, ℕ, zero, suc, ◌+◌, ◌-◌, ◌≤◌, ◌<◌, Bool, true, false, not, ◌&&◌, ◌||◌, List, [], ◌∷◌, ◌++◌, length, map, take, Some, refl, sym, ap, ◌∙◌, arith, append-nil, append_assoc, length-append, nat_lt, if◌then◌else◌}
use Rattle.std.proofs.lemmas.Bool.Decides.{nat_tests}
use Rattle.tbl_options.specs.declared.message.Told.{Told}
use Rattle.tbl_format.specs.Format.{FormatRow}
use Rattle.tbl_format.specs.declared.format.Key.{Key}
use Rattle.tbl_kept.specs.Joined.{line_at}
use Rattle.tbl_layout.specs.DataLines.{ends_in_block, len_of_fields, opens_block, without_opening}
use Rattle.tbl_layout.specs.Entries.{Content, content_under, key_at}
use Rattle.tbl_data.specs.DataRead.{cells, field_notes, keyed, notes_of_field, row_opened, serving, surplus_notes, with_fields, with_open_row, with_row}
use Rattle.tbl_data.specs.TableRead.{TableRead, with_notes}

-- what a field is under its key
abbrev pub content-of : Key × List ℕ → Content
content-of field = content_under field.0 field.1

-- what fields make of a table, by what they are
abbrev pub outcome : Bool → List Content → Bool → Bool → ℕ → TableRead → TableRead
outcome opens contents has had line t = with_open_row opens (has || had) contents (with_notes (surplus_notes (has && not had) line) t)

-- of those for which there is room, from a cell on
module _ (ends : List (ℕ × ℕ)) (n : ℕ) (in_front : List Content) (had : Bool) (format : FormatRow) where
  abbrev pub within : ℕ → ℕ → ℕ → List (List ℕ) → List (List ℕ) → TableRead → TableRead
  within column room place all texts t =
      let fields = keyed format column texts in
      outcome (ends_in_block all) (in_front ++ map content-of fields) (nat_lt room (length all)) had (line_at ends (place + len_of_fields texts - 1) n)
      (with_notes (field_notes ends n place fields) t)

-- two tests that hold together are the same
by-tests : (p q : Bool) → (p ≡ true → q ≡ true) → (q ≡ true → p ≡ true) → p ≡ q
by-tests true true there back = refl
by-tests true false there back = sym (there refl)
by-tests false true there back = back refl
by-tests false false there back = refl

by-false : (p : Bool) → (p ≡ true → ⊥) → p ≡ false
by-false true none = absurd (none refl)
by-false false none = refl

pub less_suc : (a b : ℕ) → nat_lt (suc a) (suc b) ≡ nat_lt a b
less_suc a b = by-tests (nat_lt (suc a) (suc b)) (nat_lt a b) (λ is. grind (arith, nat_tests, is)) (λ is. grind (arith, nat_tests, is))

pub none-less : (a : ℕ) → nat_lt a 0 ≡ false
none-less a = by-false (nat_lt a 0) (λ is. absurd (grind (arith, nat_tests, is)))

pub zero-less : (b : ℕ) → nat_lt 0 (suc b) ≡ true
zero-less b = grind (arith, nat_tests)

-- one field more in front of others
module _ (ends : List (ℕ × ℕ)) (n place : ℕ) (field next : List ℕ) (rest : List (List ℕ)) (in_front : List Content) (had : Bool) (t : TableRead) where
  abbrev more : List (List ℕ)
  more = next ∷ rest

  abbrev format : FormatRow
  format = serving t

  abbrev column : ℕ
  column = length in_front

  abbrev key : Key
  key = key_at format column

  abbrev content : Content
  content = content_under key field

  abbrev told : List Told
  told = notes_of_field key ends n place field

  -- said of whether some are left, of the place behind them, and of what they are
  abbrev made : Bool → ℕ → List Content → List (Key × List ℕ) → TableRead
  made has behind contents fields =
      outcome (ends_in_block more) contents has had (line_at ends (behind - 1) n) (with_notes (field_notes ends n place fields) t)

  within-front : (r : ℕ) (texts : List (List ℕ))
      → within ends n in_front had format column (suc r) place (field ∷ more) (field ∷ texts) t
      ≡ within ends n (in_front ++ content ∷ []) had format (suc column) r (place + length field + 1) more texts (with_notes told t)
  within-front r texts =
      let fields = keyed format (suc column) texts in
      let behind = place + length field + 1 in
      let at : place + len_of_fields (field ∷ texts) ≡ behind + len_of_fields texts = omega arith in
      ap (λ (b : Bool). made b (place + len_of_fields (field ∷ texts)) (in_front ++ map content-of ((key, field) ∷ fields)) ((key, field) ∷ fields)) (less_suc r (length more))
      ∙ ap (λ (p : ℕ). made (nat_lt r (length more)) p (in_front ++ map content-of ((key, field) ∷ fields)) ((key, field) ∷ fields)) at
      ∙ ap (λ (c : List Content). made (nat_lt r (length more)) (behind + len_of_fields texts) c ((key, field) ∷ fields)) (sym (append_assoc in_front (content ∷ []) (map content-of fields)))
      ∙ ap (λ (ts : List Told). outcome (ends_in_block more) ((in_front ++ content ∷ []) ++ map content-of fields) (nat_lt r (length more)) had
      (line_at ends (behind + len_of_fields texts - 1) n) (record t { notes = ts })) (sym (append_assoc t.notes told (field_notes ends n behind fields)))

  pub one-field : length in_front < cells t
      → with_fields ends n place (field ∷ more) in_front had t ≡ with_fields ends n (place + length field + 1) more (in_front ++ content ∷ []) had (with_notes told t)
  one-field room =
      let r = cells t - (length in_front + 1) in
      let next_column : suc column ≡ length (in_front ++ content ∷ []) = omega (arith, length-append in_front (content ∷ [])) in
      let some : cells t - length in_front ≡ suc r = omega (arith, room) in
      let behind : r ≡ cells t - length (in_front ++ content ∷ []) = omega (arith, length-append in_front (content ∷ [])) in
      ap (λ (k : ℕ). within ends n in_front had format column k place (field ∷ more) (take k (without_opening (field ∷ more))) t) some
      ∙ within-front r (take r (without_opening more))
      ∙ ap (λ (k : ℕ). within ends n (in_front ++ content ∷ []) had format (suc column) k (place + length field + 1) more (take k (without_opening more)) (with_notes told t)) behind
      ∙ ap (λ (c : ℕ). within ends n (in_front ++ content ∷ []) had format c (cells t - length (in_front ++ content ∷ [])) (place + length field + 1) more (take (cells t - length (in_front ++ content ∷ [])) (without_opening more)) (with_notes told t)) next_column

-- the last field
module _ (ends : List (ℕ × ℕ)) (n place : ℕ) (in_front : List Content) (had : Bool) (t : TableRead) where
  abbrev row : FormatRow
  row = serving t

  abbrev next_column : ℕ
  next_column = length in_front

  abbrev next_key : Key
  next_key = key_at row next_column

  notes-none : (u : TableRead) → with_notes [] u ≡ u
  notes-none u = ap (λ (ts : List Told). record u { notes = ts }) (append-nil u.notes)

  front-none : in_front ++ map content-of [] ≡ in_front
  front-none = append-nil in_front

  -- without room they are surplus
  pub no-room : (field : List ℕ) (rest : List (List ℕ)) → cells t ≤ length in_front
      → with_fields ends n place (field ∷ rest) in_front had t
      ≡ with_open_row (ends_in_block (field ∷ rest)) true in_front (with_notes (surplus_notes (not had) (line_at ends (place - 1) n)) t)
  no-room field rest full =
      let none : cells t - length in_front ≡ 0 = omega (arith, full) in
      let all = field ∷ rest in
      let opens = ends_in_block all in
      let at : place + 0 ≡ place = omega arith in
      ap (λ (k : ℕ). within ends n in_front had row next_column k place all (take k (without_opening all)) t) none
      ∙ ap (λ (b : Bool). outcome opens (in_front ++ map content-of []) b had (line_at ends (place + 0 - 1) n) (with_notes [] t)) (zero-less (length rest))
      ∙ ap (λ (c : List Content). with_open_row opens true c (with_notes (surplus_notes (not had) (line_at ends (place + 0 - 1) n)) (with_notes [] t))) front-none
      ∙ ap (λ (u : TableRead). with_open_row opens true in_front (with_notes (surplus_notes (not had) (line_at ends (place + 0 - 1) n)) u)) (notes-none t)
      ∙ ap (λ (p : ℕ). with_open_row opens true in_front (with_notes (surplus_notes (not had) (line_at ends (p - 1) n)) t)) at

  module _ (field : List ℕ) (room : length in_front < cells t) where
    abbrev left : ℕ
    left = cells t - (length in_front + 1)

    some-room : cells t - length in_front ≡ suc left
    some-room = omega (arith, room)

    within-room : (all : List (List ℕ)) → with_fields ends n place all in_front had t ≡ within ends n in_front had row next_column (suc left) place all (take (suc left) (without_opening all)) t
    within-room all = ap (λ (k : ℕ). within ends n in_front had row next_column k place all (take k (without_opening all)) t) some-room

    no-surplus : nat_lt (suc left) (length (field ∷ [])) ≡ false
    no-surplus = less_suc left 0 ∙ none-less left

    -- a text block opens
    pub opening-last : opens_block field ≡ true
        → with_fields ends n place (field ∷ []) in_front had t ≡ record t { begun = Some (row_opened had next_key in_front) }
    opening-last opens =
        within-room (field ∷ [])
        ∙ ap (λ (o : Bool). within ends n in_front had row next_column (suc left) place (field ∷ []) (take (suc left) (if o then [] else field ∷ [])) t) opens
        ∙ ap (λ (o : Bool). outcome o (in_front ++ map content-of []) (nat_lt (suc left) (length (field ∷ []))) had (line_at ends (place + 0 - 1) n) (with_notes [] t)) opens
        ∙ ap (λ (b : Bool). outcome true (in_front ++ map content-of []) b had (line_at ends (place + 0 - 1) n) (with_notes [] t)) no-surplus
        ∙ ap (λ (c : List Content). with_open_row true had c (with_notes [] (with_notes [] t))) front-none
        ∙ ap (λ (u : TableRead). with_open_row true had in_front u) (notes-none (with_notes [] t) ∙ notes-none t)

    -- or the row ends
    abbrev kept-by : Bool → List (List ℕ) → TableRead
    kept-by opens texts =
        outcome opens (in_front ++ map content-of (keyed row next_column texts)) (nat_lt (suc left) (length (field ∷ []))) had
        (line_at ends (place + len_of_fields texts - 1) n) (with_notes (field_notes ends n place (keyed row next_column texts)) t)

    one-by : (k : ℕ) → take (suc k) (field ∷ []) ≡ field ∷ []
    one-by zero = refl
    one-by (suc k) = refl

    pub last-kept : opens_block field ≡ false
        → with_fields ends n place (field ∷ []) in_front had t ≡ with_row (in_front ++ content_under next_key field ∷ []) (with_notes (notes_of_field next_key ends n place field) t)
    last-kept opens =
        let told = notes_of_field next_key ends n place field in
        within-room (field ∷ [])
        ∙ ap (λ (o : Bool). within ends n in_front had row next_column (suc left) place (field ∷ []) (take (suc left) (if o then [] else field ∷ [])) t) opens
        ∙ ap (λ (o : Bool). kept-by o (take (suc left) (field ∷ []))) opens
        ∙ ap (λ (fs : List (List ℕ)). kept-by false fs) (one-by left)
        ∙ ap (λ (b : Bool). outcome false (in_front ++ content_under next_key field ∷ []) b had (line_at ends (place + len_of_fields (field ∷ []) - 1) n) (with_notes (told ++ []) t)) no-surplus
        ∙ ap (λ (u : TableRead). with_row (in_front ++ content_under next_key field ∷ []) u) (notes-none (with_notes (told ++ []) t) ∙ ap (λ (ts : List Told). with_notes ts t) (append-nil told))
