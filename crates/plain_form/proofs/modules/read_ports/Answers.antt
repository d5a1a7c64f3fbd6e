use Rattle.std.proofs.Common.{rules, arith, ◌≡◌, ◌∙◌, ◌-◌, [], map, length, ◌∷◌, ◌++◌, take, drop, get_or, Bor, ap, sym, List, ℕ}
use Rattle.std.proofs.lemmas.List.{length-map, map-append}
use Rattle.plain_form.specs.Modules as spec
use Rattle.plain_form.specs.declared.modules.Port.{Port}
use Rattle.plain_form.specs.Seen.{seen_port}
use Rattle.plain_form.proofs.ReadLaws as laws
use Rattle.plain_form.proofs.modules.read_ports.Goals as goal

pushed : (new old : List Port) (x : Port) → new ≡ old ++ (x ∷ []) → map seen_port new ≡ map seen_port old ++ (seen_port x ∷ [])
pushed new old x e = ap (map seen_port) e ∙ map-append seen_port old (x ∷ [])

pub returns-in_default : goal.returns-in_default
returns-in_default c =
    sym (sym c.ports.invariant ∙ laws.ports_short _ (map (λ w. w.now) c.ports.rest.now) (let h = c.in_default.len_below in omega (arith, length-map c.ports.rest.now (λ w. w.now))))

pub ports-preserved : goal.ports-preserved
ports-preserved c =
    let rest = c.ports.rest.now in
    let d : Bor (List ℕ) = record { ref_ptr = (0, 0); now = [] } in
    laws.port_moves (map seen_port c.ports.ports.items) (map seen_port c.push.new.self.items) (get_or rest 0 d).now (get_or rest 1 d).now (get_or rest 2 d).now
    (map (λ w. w.now) (take (length rest - 3) (drop 3 rest))) (seen_port c.in-Some.port) (search rules) (search rules) (search rules) (pushed c.push.new.self.items c.ports.ports.items c.in-Some.port (c.in_ok-push.ensures {u = tt}).items)
    ∙ sym (ap (λ ws. spec.ports_after (map seen_port c.ports.ports.items) (map (λ w. w.now) ws)) (laws.three rest d c.in-len3-up.len_at_least)) ∙ c.ports.invariant
