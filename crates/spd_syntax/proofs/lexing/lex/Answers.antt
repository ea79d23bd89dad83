use Rattle.std.proofs.Common.{◌∙◌, ◌+◌, ◌<◌, sym, inr, arith, get_or}
use Rattle.std.proofs.lemmas.Result.{err_from_is_err_and}
use Rattle.std.proofs.lemmas.List.{take_rest, length-drop}
use Rattle.spd_syntax.specs.Tokens.{AreInOrder}
use Rattle.spd_syntax.proofs.Tokens.{at_newline, at_blank, at_comment, at_fault, next_token, BeginsToken, ended, in_order-to, in_order-push}
use Rattle.spd_syntax.proofs.lexing.lex.Goals as goal

pub loop-at-preserved-then-b-eq10 : goal.loop-at-preserved-then-b-eq10
loop-at-preserved-then-b-eq10 c =
    record {
      so_far = rw (← at_newline c.args.text.now c.loop-at.at c.loop-at.line c.loop-at-test.true c.if-b-eq10.true) c.loop-at.invariant.so_far;
      in_order = in_order-to 0 c.loop-at.at (c.loop-at.at + 1) c.loop-at.tokens c.loop-at.invariant.in_order (omega arith);
      lines = omega arith;
      within = omega arith;
    }

pub loop-at-preserved-then-is_blank : goal.loop-at-preserved-then-is_blank
loop-at-preserved-then-is_blank c =
    record {
      so_far = rw (← at_blank c.args.text.now c.loop-at.at c.loop-at.line c.loop-at-test.true c.if-b-eq10.false
          (sym c.is_blank.ensures ∙ c.if-is_blank.true)) c.loop-at.invariant.so_far;
      in_order = in_order-to 0 c.loop-at.at (c.loop-at.at + 1) c.loop-at.tokens c.loop-at.invariant.in_order (omega arith);
      lines = omega arith;
      within = omega arith;
    }

pub loop-at-preserved-then-b-eq35 : goal.loop-at-preserved-then-b-eq35
loop-at-preserved-then-b-eq35 c =
    let given = rw (take_rest c.args.text.now (c.loop-at.at + 1)) at c.comment_len-at.ensures in
    record {
      so_far = rw (← at_comment c.args.text.now c.loop-at.at c.loop-at.line c.loop-at-test.true c.comment_len-at.result c.if-b-eq10.false
          (sym c.is_blank.ensures ∙ c.if-is_blank.false) c.if-b-eq35.true given.value) c.loop-at.invariant.so_far;
      in_order = in_order-to 0 c.loop-at.at (c.loop-at.at + 1 + c.comment_len-at.result) c.loop-at.tokens c.loop-at.invariant.in_order (omega arith);
      lines = omega arith;
      within = omega (arith, given.within, length-drop (c.loop-at.at + 1) c.args.text.now);
    }

pub returns-in_err-token-clause-fault : goal.returns-in_err-token-clause-fault
returns-in_err-token-clause-fault c =
    let begins : BeginsToken (get_or c.args.text.now c.loop-at.at 0) = record
    { not_newline = c.if-b-eq10.false; not_blank = sym c.is_blank.ensures ∙ c.if-is_blank.false; not_comment = c.if-b-eq35.false } in
    let fault = err_from_is_err_and c.from_residual.result c.from_residual.ensures.1 in
    rw (fault.1, fault.2) (inr (sym c.loop-at.invariant.so_far ∙ at_fault c.args.text.now c.loop-at.at c.loop-at.line c.loop-at-test.true
    c.in_err-token.field-0.0 _ begins c.in_err-token.ensures.fault c.in_err-token.ensures.line))

pub loop-at-preserved : goal.loop-at-preserved
loop-at-preserved c =
    let begins : BeginsToken (get_or c.args.text.now c.loop-at.at 0) = record
    { not_newline = c.if-b-eq10.false; not_blank = sym c.is_blank.ensures ∙ c.if-is_blank.false; not_comment = c.if-b-eq35.false } in
    let given = c.in_ok-token.ensures in
    let in_order : AreInOrder 0 c.loop-at.tokens c.in_ok-token.token.start = rw given.place.0 c.loop-at.invariant.in_order in
    let some : c.in_ok-token.token.start < c.in_ok-token.token.end = rw given.place.0 given.place.1 in
    rw c.in-Ok.ensures.ok
    record {
      so_far = next_token c.args.text.now c.loop-at.at c.loop-at.line c.loop-at-test.true c.in_ok-token.token c.loop-at.tokens begins given.token
          given.place.0 given.line given.place.1 ∙ c.loop-at.invariant.so_far;
      in_order = in_order-push 0 c.loop-at.tokens c.in_ok-token.token in_order some;
      lines = omega (arith, given.place.1);
      within = given.place.2;
    }

pub returns-clause-tokens : goal.returns-clause-tokens
returns-clause-tokens c = sym c.loop-at.invariant.so_far ∙ ended c.args.text.now c.loop-at.at c.loop-at.line c.loop-at.tokens (omega arith)
