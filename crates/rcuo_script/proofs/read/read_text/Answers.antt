use Rattle.std.proofs.Common.{◌≡◌, ◌++◌, ◌<◌, ◌≤◌, ◌-◌, ap, length, arith, length-append, vec_len}
use Rattle.std.proofs.lemmas.Grind.{common_steps}
use Rattle.std.proofs.lemmas.Result.{IfOk-from_err}
use Rattle.rcuo_script.proofs.Known.{Consumes-append, took_all, took_most}
use Rattle.rcuo_script.proofs.read.read_text.Goals.{else-loop-text-test, then-loop-text-test+in_ok-read_piece+then-not-branch}
use Rattle.rcuo_script.proofs.read.read_text.Goals as goal

pub returns-in_err-read_piece-clause-most : goal.returns-in_err-read_piece-clause-most
returns-in_err-read_piece-clause-most g c =
    let short : length c.read_piece.ensures.piece.0 ≤ c.args.most - vec_len c.loop-text.text = grind (arith, common_steps) in
    (c.loop-text.text.items ++ c.read_piece.ensures.piece.0, Consumes-append _ _ _ _ _ c.loop-text.invariant.taken c.read_piece.ensures.piece.1, simp length-append (omega (arith, c.loop-text.text.ok.0, c.loop-text.invariant.within)))

pub loop-text-preserved : goal.loop-text-preserved
loop-text-preserved g c =
    let piece = c.in_ok-read_piece.ensures.piece in
    let short : length piece.0 ≤ c.args.most - vec_len c.loop-text.text = grind (arith, common_steps) in
    let longer : c.read_piece.new.text.items ≡ c.loop-text.text.items ++ piece.0 = piece.3.0 in record {
      room = c.loop-text.invariant.room;
      within = omega (arith, c.read_piece.new.text.ok.0, c.loop-text.text.ok.0, ap length longer, length-append c.loop-text.text.items piece.0, short, c.loop-text.invariant.within);
      taken = rw longer (Consumes-append _ _ _ _ _ c.loop-text.invariant.taken piece.1);
    }

pub loop-text-smaller : goal.loop-text-smaller
loop-text-smaller g c =
    let piece = c.in_ok-read_piece.ensures.piece in
    let longer : c.read_piece.new.text.items ≡ c.loop-text.text.items ++ piece.0 = piece.3.0 in
    let some : 0 < length piece.0 = piece.3.2 c.if-not-branch.false in
    omega (arith, c.read_piece.new.text.ok.0, c.loop-text.text.ok.0, ap length longer, length-append c.loop-text.text.items piece.0, some, c.loop-text-test.true, c.len.ensures)

pub returns-clause-short : goal.returns-clause-short
returns-clause-short g c = elim c.loop-text-test.branch [
  | else-loop-text-test w ↦ rw w.text-is c.loop-text.invariant.within
  | then-loop-text-test+in_ok-read_piece+then-not-branch w ↦
      let piece = w.in_ok-read_piece.ensures.piece in
      let short : length piece.0 ≤ c.args.most - vec_len c.loop-text.text = grind (arith, common_steps) in
      let longer : w.read_piece.new.text.items ≡ c.loop-text.text.items ++ piece.0 = piece.3.0 in
      rw w.text-is (omega (arith, w.read_piece.new.text.ok.0, c.loop-text.text.ok.0, ap length longer, length-append c.loop-text.text.items piece.0, short, c.loop-text.invariant.within))
]

pub returns-clause-whole : goal.returns-clause-whole
returns-clause-whole g c = elim c.loop-text-test.branch [
  | else-loop-text-test w ↦ rw w.text-is (took_most _ _ _ _ c.loop-text.invariant.taken (omega (arith, c.loop-text.text.ok.0, c.loop-text.invariant.within, w.loop-text-test.false, c.len.ensures)))
  | then-loop-text-test+in_ok-read_piece+then-not-branch w ↦
      let piece = w.in_ok-read_piece.ensures.piece in
      let short : length piece.0 ≤ c.args.most - vec_len c.loop-text.text = grind (arith, common_steps) in
      let longer : w.read_piece.new.text.items ≡ c.loop-text.text.items ++ piece.0 = piece.3.0 in
      rw (w.text-is, longer) (took_all _ _ _ _ (Consumes-append _ _ _ _ _ c.loop-text.invariant.taken piece.1) (piece.3.1 w.if-not-branch.true) (simp length-append (omega (arith, c.loop-text.text.ok.0, short, c.loop-text.invariant.within))))
]

pub returns-in_err-buffer-clause-short : goal.returns-in_err-buffer-clause-short
returns-in_err-buffer-clause-short g c = IfOk-from_err _ _ c.from_residual.ensures.0

pub returns-in_err-buffer-clause-whole : goal.returns-in_err-buffer-clause-whole
returns-in_err-buffer-clause-whole g c = IfOk-from_err _ _ c.from_residual.ensures.0

pub returns-in_err-read_piece-clause-short : goal.returns-in_err-read_piece-clause-short
returns-in_err-read_piece-clause-short g c = IfOk-from_err _ _ c.from_residual-in_err-read_piece.ensures.0

pub returns-in_err-read_piece-clause-whole : goal.returns-in_err-read_piece-clause-whole
returns-in_err-read_piece-clause-whole g c = IfOk-from_err _ _ c.from_residual-in_err-read_piece.ensures.0
