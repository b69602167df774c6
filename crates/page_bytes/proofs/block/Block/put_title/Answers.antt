use Rattle.std.proofs.Common.{◌≡◌, ◌++◌, ◌∷◌, [], List, ℕ, append_assoc, append-nil, refl, sym, ap, subst, ◌∙◌, arith}
use Rattle.std.proofs.lemmas.Result.{err_from_is_err_and, on_ok_weaker, on_err_weaker}
use Rattle.page_model.specs.Columns.{spaces, trimmed}
use Rattle.page_bytes.specs.Sinks.{Sunk, Fails, HoldsBack}
use Rattle.page_bytes.specs.TitleLeft.{title_of}
use Rattle.page_model.specs.Titles.{title_text}
use Rattle.page_bytes.proofs.Appending.{Fails-held, HoldsBack-keep, HoldsBack-more, HoldsBack-push, HoldsBack-put}
use Rattle.page_bytes.proofs.block.Block.put_title.Invariants.{Begun}
use Rattle.page_bytes.proofs.block.Block.put_title.Goals as goal

-- more of what was to come is held back, or written
with_more : {whole to_come held held_then : List ℕ} {old mid new : Sunk} (more left : List ℕ) → Begun whole to_come held old mid → more ++ left ≡ to_come
    → HoldsBack mid new (held ++ more) held_then → Begun whole left held_then old new
with_more more left begun taken next = record {
  front = begun.front ++ more;
  split = append_assoc begun.front more left ∙ ap (λ (bytes : List ℕ). begun.front ++ bytes) taken ∙ begun.split;
  so_far = HoldsBack-more more begun.so_far next;
}

-- the sink failed in it
failed_in : {whole to_come held : List ℕ} {old mid new : Sunk} (more left rest : List ℕ) → Begun whole to_come held old mid → more ++ left ≡ to_come
    → Fails mid new (held ++ more) → Fails old new (whole ++ rest)
failed_in {whole} {to_come} {held} {old} {mid} {new} more left rest begun taken part =
    let all : (begun.front ++ more) ++ left ≡ whole =
    append_assoc begun.front more left ∙ ap (λ (bytes : List ℕ). begun.front ++ bytes) taken ∙ begun.split in
    let joined : (begun.front ++ more) ++ (left ++ rest) ≡ whole ++ rest =
    sym (append_assoc (begun.front ++ more) left rest) ∙ ap (λ (bytes : List ℕ). bytes ++ rest) all in
    subst (λ (bytes : List ℕ). Fails old new bytes) joined (Fails-held (left ++ rest) (HoldsBack-keep more begun.so_far) part)

-- nothing is to come any more
ended : {whole to_come held : List ℕ} {old new : Sunk} → Begun whole to_come held old new → to_come ≡ [] → HoldsBack old new whole held
ended {whole} {to_come} {held} {old} {new} begun none =
    let all : begun.front ≡ whole =
    sym (append-nil begun.front) ∙ ap (λ (bytes : List ℕ). begun.front ++ bytes) (sym none) ∙ begun.split in
    subst (λ (bytes : List ℕ). HoldsBack old new bytes held) all begun.so_far

pub returns-in_err-push_blanks : goal.returns-in_err-push_blanks
returns-in_err-push_blanks g c =
    let failed = err_from_is_err_and c.from_residual.result c.from_residual.ensures.1 in
    let piece = c.in-Some.piece in
    rw failed.1 (record {
      ok = tt;
      err = failed_in (spaces piece.blanks) (piece.glyphs.now ++ c.next_piece.new.self) (10 ∷ []) c.loop-piece.invariant.begun c.in-Some.ensures.some.1
          c.in_err-push_blanks.ensures.err;
    })

pub returns-in_err-push_text : goal.returns-in_err-push_text
returns-in_err-push_text g c =
    let failed = err_from_is_err_and c.from_residual-in_err-push_text.result c.from_residual-in_err-push_text.ensures.1 in
    let piece = c.in-Some.piece in
    let left : List ℕ = piece.glyphs.now ++ c.next_piece.new.self in
    let begun = with_more (spaces piece.blanks) left c.loop-piece.invariant.begun c.in-Some.ensures.some.1 c.in_ok-push_blanks.ensures.ok in
    rw failed.1 (record {
      ok = tt;
      err = failed_in piece.glyphs.now c.next_piece.new.self (10 ∷ []) begun refl c.in_err-push_text.ensures.err;
    })

pub loop-piece-preserved : goal.loop-piece-preserved
loop-piece-preserved g c =
    let piece = c.in-Some.piece in
    let left : List ℕ = piece.glyphs.now ++ c.next_piece.new.self in
    let begun = with_more (spaces piece.blanks) left c.loop-piece.invariant.begun c.in-Some.ensures.some.1 c.in_ok-push_blanks.ensures.ok in
    record {
      room = omega (arith, c.loop-piece.invariant.room, c.in_ok-push_blanks.ensures.capacity, c.in_ok-push_text.ensures.capacity);
      few = c.in_ok-push_text.ensures.few;
      begun = with_more piece.glyphs.now c.next_piece.new.self begun refl c.in_ok-push_text.ensures.ok;
    }

pub returns-in_err-push : goal.returns-in_err-push
returns-in_err-push g c =
    let failed = err_from_is_err_and c.from_residual-in_err-push.result c.from_residual-in_err-push.ensures.1 in
    rw failed.1 (record {
      ok = tt;
      err = Fails-held (10 ∷ []) (ended c.loop-piece.invariant.begun c.in_default.ensures.none) c.in_err-push.ensures.err;
    })

pub returns : goal.returns
returns g c =
    let line : List ℕ = trimmed (spaces c.args.columns ++ title_text (title_of c.args.title)) ++ 10 ∷ [] in
    let all : HoldsBack (g.O.ByteSink.sunk c.args.out.now) (g.O.ByteSink.sunk c.push.new.out) line c.push.new.bytes.items =
    HoldsBack-push 10 (ended c.loop-piece.invariant.begun c.in_default.ensures.none) c.in_ok-push.ensures.ok in
    record {
      ok = on_ok_weaker c.put.result (λ rest. HoldsBack-put (g.O.ByteSink.sunk c.put.new.out) all rest) c.put.ensures.puts.ok;
      err = on_err_weaker c.put.result
          (λ part. subst (λ (bytes : List ℕ). Fails (g.O.ByteSink.sunk c.args.out.now) (g.O.ByteSink.sunk c.put.new.out) bytes) (append-nil line) (Fails-held [] all part))
          c.put.ensures.puts.err;
    }
