-- Small files.
use Rattle.std.proofs.Common.{◌≡◌, ℕ, zero, suc, ◌^◌, ◌<◌, ◌≤◌, nat_le, Bool, true, false, ◌&&◌, List, [], ◌∷◌, length, slice_index_or, refl, arith}
use Rattle.std.specs.List.{list_all}
use Rattle.std.proofs.lemmas.Bool.Decides.{nat_tests}
use Rattle.bits_core.specs.declared.names.File.{File}

both : (a b : Bool) → (a && b) ≡ true → (a ≡ true) × (b ≡ true)
both true b h = (refl, h)
both false b h = absurd (cc)

pub small_at : (files : List File) (at : ℕ) (other : File) → list_all (λ f. nat_le (length f.bytes) (2 ^ 24)) files ≡ true → at < length files → length (slice_index_or files at other).bytes ≤ 2 ^ 24
small_at [] at other h l = absurd (omega arith)
small_at (f ∷ fs) zero other h l = let t = (both (nat_le (length f.bytes) (2 ^ 24)) (list_all (λ f. nat_le (length f.bytes) (2 ^ 24)) fs) h).0 in grind (arith, nat_tests)
small_at (f ∷ fs) (suc at) other h l = small_at fs at other (both (nat_le (length f.bytes) (2 ^ 24)) (list_all (λ f. nat_le (length f.bytes) (2 ^ 24)) fs) h).1 (omega arith)
