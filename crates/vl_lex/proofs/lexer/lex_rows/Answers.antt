use Rattle.std.proofs.Common.{Err, ap, sym, subst, arith}
use Rattle.vl_tree.specs.declared.faults.Stop.{Stop}
use Rattle.vl_lex.specs.declared.lexer.Cursor.{Cursor}
use Rattle.vl_lex.specs.Lexed.{LexesRows, file_tokens}
use Rattle.vl_lex.proofs.Turns.{space_turn, join_turn, token_turn, bad_turn, unclosed_turn, no_more, front_length}
use Rattle.vl_lex.proofs.lexer.lex_rows.Goals as goal

pub loop-here-preserved-in-Space : goal.loop-here-preserved-in-Space
loop-here-preserved-in-Space c =
    let far = front_length _ _ _ _ _ c.rest_from-rest.ensures c.front.ensures c.in-Space.ensures.within.1 c.loop-here-test.true in
    record {
      goes_on = space_turn _ _ _ _ _ _ _ _ _ c.loop-here-test.true c.rest_from-rest.ensures c.in-Space.ensures.value c.in-Space.ensures.within c.front.ensures c.past_space-here.ensures.value c.loop-here.invariant.goes_on;
      within = let k = ap (λ (z : Cursor). z.at) c.past_space-here.ensures.value in omega (arith, k, far.0, far.1);
      lines = c.past_space-here.ensures.small.0;
      rows = c.past_space-here.ensures.small.1;
    }

pub loop-here-preserved-in-Join : goal.loop-here-preserved-in-Join
loop-here-preserved-in-Join c =
    let far = front_length _ _ _ _ _ c.rest_from-rest.ensures c.front-in-Join.ensures c.in-Join.ensures.within.1 c.loop-here-test.true in
    record {
      goes_on = join_turn _ _ _ _ _ _ _ _ _ c.loop-here-test.true c.rest_from-rest.ensures c.in-Join.ensures.value c.in-Join.ensures.within c.front-in-Join.ensures c.past_join-here.ensures.value c.loop-here.invariant.goes_on;
      within = let k = ap (λ (z : Cursor). z.at) c.past_join-here.ensures.value in omega (arith, k, far.0, far.1);
      lines = c.past_join-here.ensures.small.0;
      rows = c.past_join-here.ensures.small.1;
    }

pub loop-here-preserved : goal.loop-here-preserved
loop-here-preserved c =
    let far = front_length _ _ _ _ _ c.rest_from-rest.ensures c.front-text.ensures c.in-Token.ensures.within.1 c.loop-here-test.true in
    record {
      goes_on = token_turn _ _ _ _ _ _ _ _ _ _ _ _ c.loop-here-test.true c.rest_from-rest.ensures c.in-Token.ensures.value c.in-Token.ensures.within c.front-text.ensures c.past_token-here.ensures.value
          c.token_here.ensures c.in_ok-push-in-Token.ensures.ok c.loop-here.invariant.goes_on;
      within = let k = ap (λ (z : Cursor). z.at) c.past_token-here.ensures.value in omega (arith, k, far.0, far.1);
      lines = c.past_token-here.ensures.small.0;
      rows = c.past_token-here.ensures.small.1;
    }

pub returns-in-Bad : goal.returns-in-Bad
returns-in-Bad c =
    let P : Stop → Type 0 = λ s. LexesRows (Err s) (file_tokens c.args.file c.args.bytes.now) in
    subst P (sym c.fault_here.ensures) (bad_turn _ _ _ _ _ _ c.loop-here-test.true c.rest_from-rest.ensures c.in-Bad.ensures.value c.loop-here.invariant.goes_on)

pub returns-in-Unclosed : goal.returns-in-Unclosed
returns-in-Unclosed c =
    let P : Stop → Type 0 = λ s. LexesRows (Err s) (file_tokens c.args.file c.args.bytes.now) in
    subst P (sym c.fault_here-in-Unclosed.ensures) (unclosed_turn _ _ _ _ _ _ c.loop-here-test.true c.rest_from-rest.ensures c.in-Unclosed.ensures.value c.loop-here.invariant.goes_on)

pub returns : goal.returns
returns c = no_more _ _ _ _ _ c.loop-here-test.false c.loop-here.invariant.goes_on
