use Rattle.std.proofs.Common.{rules, arith, Bor, IfOk, ◌<◌, Result, ◌≡◌, ◌≤◌, ◌∙◌, ◌++◌, ◌∷◌, [], ℕ, Ok, Err, List, Option, length, map, subst, sym, ap, inl}
use Rattle.std.proofs.lemmas.List.{length-append, map-append}
use Rattle.bits_core.specs.declared.names.File.{File}
use Rattle.vl_tree.specs.declared.faults.Code.TheVariants as code
use Rattle.vl_lex.specs.Lexed.{view}
use Rattle.vl_lex.specs.Sources.{file_of, files_of}
use Rattle.vl_lex.specs.Walk.{kept}
use Rattle.vl_lex.specs.declared.gate.Halt.TheVariants as halt
use Rattle.vl_lex.specs.declared.source.Source.{Source}
use Rattle.vl_lex.specs.Resumed.{IsOver, WalksTo}
use Rattle.vl_lex.specs.declared.preprocessor.Walked.{Walked}
use Rattle.vl_tree.specs.declared.faults.Stop.{Stop}
use Rattle.conncheck.specs.declared.status.Stop.TheVariants.{Memory}
use Rattle.conncheck.specs.Ends.{EndsFor, StopEnds}
use Rattle.conncheck.specs.Reply.{limited}
use Rattle.conncheck.specs.Seen.{seen_check}
use Rattle.conncheck.specs.commands.Check.{OfTokens, OfWalk}
use Rattle.conncheck.proofs.AllowsLaws as laws
use Rattle.conncheck.proofs.NeedLaws.{asked_is_text}
use Rattle.conncheck.proofs.WalkLaws as walk
use Rattle.conncheck.proofs.commands.check.walk.Goals as goal

-- what holds where the walk began
pub returns-in_err-sources-clause-answer : goal.returns-in_err-sources-clause-answer
returns-in_err-sources-clause-answer g c = laws.told (g.H.Shelf.tells c.args.shelf.now) _ (λ files e.
    let r : c.from_residual.result ≡ Err Memory = search rules in
    let named = c.args.named.now in
    rw r (walk.memory_on (seen_check c.args.command.now) c.args.table.now (length named) (g.H.Shelf.is_steady c.args.shelf.now) files named (g.K.Sink.taken c.args.out.now)))

pub returns-in_err-walked_over-clause-answer : goal.returns-in_err-walked_over-clause-answer
returns-in_err-walked_over-clause-answer g c = laws.told (g.H.Shelf.tells c.args.shelf.now) _ (λ files e.
    let r : c.from_residual-in_err-walked_over.result ≡ Err Memory = search rules in
    let named = c.args.named.now in
    rw r (walk.memory_on (seen_check c.args.command.now) c.args.table.now (length named) (g.H.Shelf.is_steady c.args.shelf.now) files named (g.K.Sink.taken c.args.out.now)))

pub returns-in-Ok-Tokens-clause-answer : goal.returns-in-Ok-Tokens-clause-answer
returns-in-Ok-Tokens-clause-answer g c = laws.told (g.H.Shelf.tells c.args.shelf.now) _ (λ files e.
    let k = seen_check c.args.command.now in
    let table = c.args.table.now in
    let named = c.args.named.now in
    let fs = files_of c.includes.sources in
    let steady = g.H.Shelf.is_steady c.args.shelf.now in
    let after = g.H.Shelf.is_steady c.includes.shelf in
    let old = g.K.Sink.taken c.includes.out in
    let w : kept fs (length named) k.defines ≡ Ok (map view c.in-Ok-Tokens.tokens) = subst (λ (x : Walked). WalksTo (Ok x) (kept fs (length named) k.defines)) c.in-Ok-Tokens.field-0-is (subst (λ (x : Result Walked Stop). WalksTo x (kept fs (length named) k.defines)) c.in-Ok-Tokens.is c.includes.invariant.walks) in
    let ends = c.say_tokens.ensures.answer in
    let P : List Source → Type 0 = λ ss. OfTokens k table (files_of ss) (map view c.in-Ok-Tokens.tokens) ends.reply in
    let T : Option (List ℕ) → Type 0 = λ x. EndsFor steady (λ fls. OfWalk k table (length named) fls named) files x (g.K.Sink.taken c.say_tokens.new.out) c.say_tokens.result in
    subst T c.includes.invariant.taken (
    walk.leads_to k table (length named) steady after files named fs old (g.K.Sink.taken c.say_tokens.new.out) c.say_tokens.result (laws.at_told _ _ files c.includes.invariant.leads e)
    (record { reply = ends.reply; allowed = inl (walk.at_tokens k table (length named) files fs ends.reply c.in-Ok-Tokens.tokens w (subst P c.as_slice.ensures ends.is)); ended = ends.ended })))

pub returns-in-Err-clause-answer : goal.returns-in-Err-clause-answer
returns-in-Err-clause-answer g c = laws.told (g.H.Shelf.tells c.args.shelf.now) _ (λ files e.
    let k = seen_check c.args.command.now in
    let table = c.args.table.now in
    let named = c.args.named.now in
    let fs = files_of c.includes.sources in
    let steady = g.H.Shelf.is_steady c.args.shelf.now in
    let after = g.H.Shelf.is_steady c.includes.shelf in
    let old = g.K.Sink.taken c.includes.out in
    let new = g.K.Sink.taken c.say_stop.new.out in
    let P : Result Walked Stop → Type 0 = λ x. WalksTo x (kept fs (length named) k.defines) in
    let Q : List Source → Type 0 = λ ss. StopEnds c.in-Err.stop (files_of ss) old new c.say_stop.result in
    let T : Option (List ℕ) → Type 0 = λ x. EndsFor steady (λ fls. OfWalk k table (length named) fls named) files x new c.say_stop.result in
    subst T c.includes.invariant.taken (
    walk.leads_to k table (length named) steady after files named fs old new c.say_stop.result (laws.at_told _ _ files c.includes.invariant.leads e)
    (walk.stop_on k table (length named) after files fs c.in-Err.stop old new c.say_stop.result (subst P c.in-Err.is c.includes.invariant.walks) (subst Q c.as_slice-in-Err.ensures c.say_stop.ensures.printed))))

pub returns-then-len-bound-clause-answer : goal.returns-then-len-bound-clause-answer
returns-then-len-bound-clause-answer g c = laws.told (g.H.Shelf.tells c.args.shelf.now) _ (λ files e.
    let k = seen_check c.args.command.now in
    let table = c.args.table.now in
    let named = c.args.named.now in
    let fs = files_of c.includes.sources in
    let steady = g.H.Shelf.is_steady c.args.shelf.now in
    let after = g.H.Shelf.is_steady c.includes.shelf in
    let old = g.K.Sink.taken c.includes.out in
    let new = g.K.Sink.taken c.say.new.out in
    let w : kept fs (length named) k.defines ≡ Err (halt.Need c.in-Ok-Asks.asking.name.now) = subst (λ (x : Walked). WalksTo (Ok x) (kept fs (length named) k.defines)) c.in-Ok-Asks.field-0-is (subst (λ (x : Result Walked Stop). WalksTo x (kept fs (length named) k.defines)) c.in-Ok-Asks.is c.includes.invariant.walks) in
    let many : 1024 ≤ length c.includes.sources = omega arith in
    let T : Option (List ℕ) → Type 0 = λ x. EndsFor steady (λ fls. OfWalk k table (length named) fls named) files x new c.say.result in
    subst T c.includes.invariant.taken (
    walk.leads_to k table (length named) steady after files named fs old new c.say.result (laws.at_told _ _ files c.includes.invariant.leads e)
    (record { reply = limited code.Files; allowed = inl (walk.at_limit k table (length named) files fs c.in-Ok-Asks.asking.name.now w (walk.is_full c.includes.sources many)); ended = c.say.ensures.printed })))

pub returns-in-Err-read_asked-clause-answer : goal.returns-in-Err-read_asked-clause-answer
returns-in-Err-read_asked-clause-answer g c = laws.told (g.H.Shelf.tells c.args.shelf.now) _ (λ files e.
    let k = seen_check c.args.command.now in
    let table = c.args.table.now in
    let named = c.args.named.now in
    let fs = files_of c.includes.sources in
    let steady = g.H.Shelf.is_steady c.args.shelf.now in
    let after = g.H.Shelf.is_steady c.includes.shelf in
    let old = g.K.Sink.taken c.includes.out in
    let new = g.K.Sink.taken c.say_unread.new.out in
    let w : kept fs (length named) k.defines ≡ Err (halt.Need c.in-Ok-Asks.asking.name.now) = subst (λ (x : Walked). WalksTo (Ok x) (kept fs (length named) k.defines)) c.in-Ok-Asks.field-0-is (subst (λ (x : Result Walked Stop). WalksTo x (kept fs (length named) k.defines)) c.in-Ok-Asks.is c.includes.invariant.walks) in
    let few : length c.includes.sources < 1024 = omega arith in
    let T : Option (List ℕ) → Type 0 = λ x. EndsFor steady (λ fls. OfWalk k table (length named) fls named) files x new c.say_unread.result in
    subst T c.includes.invariant.taken (
    walk.leads_to k table (length named) steady after files named fs old new c.say_unread.result (laws.at_told _ _ files c.includes.invariant.leads e)
    (walk.unread_on k table (length named) after after files fs c.in-Ok-Asks.asking.name.now c.in-Err-read_asked.unread old new c.say_unread.result (λ s. s) w (walk.has_more c.includes.sources few)
    (laws.at_told _ _ files c.in-Err-read_asked.ensures.files (c.includes.invariant.told ∙ e)) c.say_unread.ensures.printed)))

pub returns-in_err-push-clause-answer : goal.returns-in_err-push-clause-answer
returns-in_err-push-clause-answer g c = laws.told (g.H.Shelf.tells c.args.shelf.now) _ (λ files e.
    let r : c.from_residual-in_err-push.result ≡ Err Memory = search rules in
    let named = c.args.named.now in
    let T : Option (List ℕ) → Type 0 = λ x. EndsFor (g.H.Shelf.is_steady c.args.shelf.now) (λ fls. OfWalk (seen_check c.args.command.now) c.args.table.now (length named) fls named) files (g.K.Sink.taken c.args.out.now) x (Err Memory) in
    rw r (subst T (sym c.includes.invariant.taken) (walk.memory_on (seen_check c.args.command.now) c.args.table.now (length named) (g.H.Shelf.is_steady c.args.shelf.now) files named (g.K.Sink.taken c.args.out.now))))

pub read_asked-requires : goal.read_asked-requires
read_asked-requires g c =
    let named = c.args.named.now in
    let k = seen_check c.args.command.now in
    let fs = files_of c.includes.sources in
    record { text = asked_is_text fs (length named) k.defines c.in-Ok-Asks.asking.name.now (subst (λ (x : Walked). WalksTo (Ok x) (kept fs (length named) k.defines)) c.in-Ok-Asks.field-0-is (subst (λ (x : Result Walked Stop). WalksTo x (kept fs (length named) k.defines)) c.in-Ok-Asks.is c.includes.invariant.walks)) }

pub includes-preserved : goal.includes-preserved
includes-preserved g c =
    let k = seen_check c.args.command.now in
    let table = c.args.table.now in
    let named = c.args.named.now in
    let ss = c.includes.sources in
    let fs = files_of ss in
    let a = c.in-Ok-Asks.asking in
    let s = c.in-Ok.source in
    let r = c.go_on-walked.result in
    let file : File = file_of s in
    let w : kept fs (length named) k.defines ≡ Err (halt.Need a.name.now) =
    subst (λ (x : Walked). WalksTo (Ok x) (kept fs (length named) k.defines)) c.in-Ok-Asks.field-0-is
    (subst (λ (x : Result Walked Stop). WalksTo x (kept fs (length named) k.defines)) c.in-Ok-Asks.is c.includes.invariant.walks) in
    let over : (files_of a.sources ≡ fs) × (a.named ≡ length named) × (a.defines.now ≡ k.defines) =
    subst (λ (x : Walked). IsOver fs (length named) k.defines x) c.in-Ok-Asks.field-0-is
    (subst (λ (x : Result Walked Stop). IfOk x (IsOver fs (length named) k.defines)) c.in-Ok-Asks.is c.includes.invariant.over) in
    let few : length ss < 1024 = omega arith in
    let name : s.name.now ≡ a.name.now = ap (λ (n : Bor (List ℕ)). n.now) c.in-Ok.ensures.named in
    let pushed : c.push.new.self ≡ ss ++ s ∷ [] = (c.in_ok-push.ensures {u = tt}).ok in
    let more : files_of c.push.new.self ≡ fs ++ file ∷ [] = ap files_of pushed ∙ map-append file_of ss (s ∷ []) in
    let all : files_of a.sources ++ (record { name = a.name.now; bytes = s.bytes.now }) ∷ [] ≡ files_of c.push.new.self =
    ap (λ (x : List File). x ++ (record { name = a.name.now; bytes = s.bytes.now }) ∷ []) over.0
    ∙ ap (λ (n : List ℕ). fs ++ (record { name = n; bytes = s.bytes.now }) ∷ []) (sym name) ∙ sym more in
    record {
      told = c.read_asked.ensures.kept ∙ c.includes.invariant.told;
      steady = λ x. c.read_asked.ensures.steady (c.includes.invariant.steady x);
      faults = c.in-Ok.ensures.cause ∙ c.includes.invariant.faults;
      taken = c.includes.invariant.taken;
      written = c.includes.invariant.written;
      few = omega (arith, length-append {A = Source}, ap length pushed);
      walks =
          subst (λ (d : List (List ℕ)). WalksTo r (kept (files_of c.push.new.self) (length named) d)) over.2
          (subst (λ (n : ℕ). WalksTo r (kept (files_of c.push.new.self) n a.defines.now)) over.1
          (subst (λ (x : List File). WalksTo r (kept x a.named a.defines.now)) all c.go_on-walked.ensures.answer));
      over =
          subst (λ (d : List (List ℕ)). IfOk r (IsOver (files_of c.push.new.self) (length named) d)) over.2
          (subst (λ (n : ℕ). IfOk r (IsOver (files_of c.push.new.self) n a.defines.now)) over.1
          (subst (λ (x : List File). IfOk r (IsOver x a.named a.defines.now)) all c.go_on-walked.ensures.files));
      leads = laws.told (g.H.Shelf.tells c.args.shelf.now) _ (λ files e.
          walk.leads_on k table (length named) (g.H.Shelf.is_steady c.args.shelf.now) (g.H.Shelf.is_steady c.includes.shelf) (g.H.Shelf.is_steady c.read_asked.new.shelf) files named fs
          (files_of c.push.new.self) a.name.now file (laws.at_told _ _ files c.includes.invariant.leads e) c.read_asked.ensures.steady w (walk.has_more ss few)
          (laws.at_told _ _ files c.in-Ok.ensures.files (c.includes.invariant.told ∙ e)) more);
    }
