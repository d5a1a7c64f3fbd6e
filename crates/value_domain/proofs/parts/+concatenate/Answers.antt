use Rattle.std.proofs.Common.{◌≡◌, ℕ, ◌+◌, ◌-◌, ◌/◌, ◌<◌, ◌≤◌, length, take, drop, sym, subst, arith, All}
use Rattle.std.proofs.lemmas.List.{take_rest}
use Rattle.std.proofs.lemmas.List.Elements.{All-drop}
use Rattle.std.proofs.lemmas.Result.{IfOk-weaker}
use Rattle.value_domain.specs.Words.{IsWord}
use Rattle.value_domain.proofs.WordLaws as w
use Rattle.value_domain.proofs.parts.+concatenate.Goals as goal

pub concatenate-requires-2 : goal.concatenate-requires-2
concatenate-requires-2 g t c κs within =
    let words = c.args.words.now in
    let half = length words / 2 in
    let more = c.if-words-eq1.false in
    let some = c.requires.some in
    let less : half < length words = omega arith in
    let long = w.back_length words half less in
    let d = c.decreases in (
      omega arith,
      (
        within.0,
        (
          within.1,
          (
            omega arith,
            (
              subst (All (IsWord g.D.Domain.meaning c.concatenate.new.domain)) (sym (take_rest words half)) (w.words_later g.D.Domain.meaning c.args.domain.now c.concatenate.new.domain (drop half words) c.concatenate.ensures.kept (All-drop (IsWord g.D.Domain.meaning c.args.domain.now) half words c.requires.values)),
              w.back_fits words half c.requires.most,
            ),
          ),
        ),
      ),
    )

pub join-requires-clause-most : goal.join-requires-clause-most
join-requires-clause-most g t c =
    w.halves_fit c.args.words.now (length c.args.words.now / 2) c.in_ok-high.high.length c.in_ok-low.low.length c.in_ok-high.ensures.made.long c.in_ok-low.ensures.made.long c.requires.most

pub returns-clause-made : goal.returns-clause-made
returns-clause-made g t c =
    let words = c.args.words.now in
    let half = length words / 2 in
    IfOk-weaker c.join.result _ _ (λ r made. w.halves_made g.D.Domain.meaning c.args.domain.now c.concatenate.new.domain c.concatenate-2.new.domain c.join.new.domain
    words (take half words) (take (length words - half) (drop half words)) c.in_ok-high.high c.in_ok-low.low r (w.halves_split words half) c.requires.values
    c.concatenate.ensures.kept c.concatenate-2.ensures.kept c.in_ok-high.ensures.made c.in_ok-low.ensures.made made) c.join.ensures.made
