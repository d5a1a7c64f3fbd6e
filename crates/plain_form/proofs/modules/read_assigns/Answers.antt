use Rattle.std.proofs.Common.{rules, arith, ◌≡◌, ◌∙◌, ◌-◌, [], map, length, ◌∷◌, ◌++◌, take, drop, get_or, Bor, ap, sym, List, ℕ, false}
use Rattle.std.proofs.lemmas.List.{length-map, map-append}
use Rattle.plain_form.specs.Modules as spec
use Rattle.plain_form.specs.declared.modules.Assign.{Assign}
use Rattle.plain_form.specs.Seen.{seen_assign}
use Rattle.plain_form.proofs.ReadLaws as laws
use Rattle.plain_form.proofs.modules.read_assigns.Goals as goal

pushed : (new old : List Assign) (x : Assign) → new ≡ old ++ (x ∷ []) → map seen_assign new ≡ map seen_assign old ++ (seen_assign x ∷ [])
pushed new old x e = ap (map seen_assign) e ∙ map-append seen_assign old (x ∷ [])

pub returns-in_default : goal.returns-in_default
returns-in_default c =
    sym (sym c.assigns.invariant ∙ laws.assigns_end _ (map (λ w. w.now) c.assigns.rest.now) false (let h = c.in_default.len_below in omega (arith, length-map c.assigns.rest.now (λ w. w.now))) (c.if-is_end.ensures {u = tt}))

pub assigns-preserved : goal.assigns-preserved
assigns-preserved c =
    let rest = c.assigns.rest.now in
    let d : Bor (List ℕ) = record { ref_ptr = (0, 0); now = [] } in
    laws.assign_moves (map seen_assign c.assigns.assigns.items) (map seen_assign c.push.new.self.items)
    (get_or rest 0 d).now (get_or rest 1 d).now (get_or rest 2 d).now (get_or rest 3 d).now (get_or rest 4 d).now
    (map (λ w. w.now) (take (length rest - 5) (drop 5 rest))) (seen_assign c.in-Some.assign) (search rules) (pushed c.push.new.self.items c.assigns.assigns.items c.in-Some.assign (c.in_ok-push.ensures {u = tt}).items)
    ∙ sym (ap (λ ws. spec.assigns_after (map seen_assign c.assigns.assigns.items) (map (λ w. w.now) ws)) (laws.five rest d c.in-len5-up.len_at_least)) ∙ c.assigns.invariant
