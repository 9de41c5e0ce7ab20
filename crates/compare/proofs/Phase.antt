-- Powers of ω and W's: W's on the right of a text multiply its matrix by that power of ω, and eight of them by one. So W's that
-- are added to a form's tail are counted round 8 in the tail's number, and the rest of the form stays. Assumes nothing.
use Prim.Native.Nat.{ℕ, zero, suc, ◌+◌, ◌*◌, ◌/◌, ◌%◌, ◌<◌}
use native.Mathlib.Nat.{add-zero, zero-add}
use native.Mathlib.Omega.{arith}
use mathlib.Core.List.{List, [], ◌∷◌, ◌++◌, append_assoc}
use mathlib.Core.Path.{◌≡◌, refl, sym, ap, ◌∙◌}
use lib.IntN.{pos}
use lib.ListN.{replicate, replicate-append-replicate}
use Rattle.algebra.proofs.Solver.{var, con, ◌⊕◌, ◌⊗◌, solve}
use Rattle.ring.specs.declared.Element.{Element}
use Rattle.ring.specs.Element.{nothing, omega as ω, sum, multiple, turned, product}
use Rattle.ring.proofs.Formal.{formal, turnedᶠ, ◌*ᶠ◌, xᶠ, coefficients, coefficientwise}
use Rattle.ring.proofs.Ring.{elements, product_comm}
use Rattle.matrix.specs.declared.Matrix.{Matrix}
use Rattle.matrix.specs.Matrix.{matrix, identity, times}
use Rattle.matrix.specs.Letter.{S, W, X, gate, gate_W, matrix_of}
use Rattle.matrix.proofs.Entries.{equal_entries}
use Rattle.matrix.proofs.Times.{matrix_of_append}
use Rattle.form.specs.Tail.{tails, tail_h, tail_b, tail_c, tail_a, head_text, tail_text}
use Rattle.compare.specs.Promise.{omega_power, phased}

-- ---- W's are powers of ω
omega_times : (x : Element) → product ω x ≡ turned x
unfolding ω product sum multiple turned
omega_times x =
    coefficientwise (coefficients (x ∷ [])) (formal (con (pos 0)) (con (pos 1)) (con (pos 0)) (con (pos 0)) *ᶠ xᶠ) (turnedᶠ xᶠ) (tt, tt, tt, tt)

-- an element on the diagonal
diagonal : Element → Matrix
diagonal z = matrix 0 z nothing nothing z

-- an element on the diagonal, on the right, multiplies every entry
times_diagonal : (m : Matrix) (z : Element) →
    times m (diagonal z)
    ≡ matrix m.exponent (product z m.top.left) (product z m.top.right) (product z m.bottom.left) (product z m.bottom.right)
unfolding times diagonal
times_diagonal m z =
    equal_entries (add-zero m.exponent) (first m.top.left m.top.right) (second m.top.left m.top.right)
    (first m.bottom.left m.bottom.right) (second m.bottom.left m.bottom.right)
  where
    first : (x y : Element) → sum (product x z) (product y nothing) ≡ product z x
    first x y = solve elements (x ∷ y ∷ z ∷ []) (var 0 ⊗ var 2 ⊕ var 1 ⊗ con (pos 0)) (var 2 ⊗ var 0) tt

    second : (x y : Element) → sum (product x nothing) (product y z) ≡ product z y
    second x y = solve elements (x ∷ y ∷ z ∷ []) (var 0 ⊗ con (pos 0) ⊕ var 1 ⊗ var 2) (var 2 ⊗ var 1) tt

W_times_diagonal : (z : Element) → times gate_W (diagonal z) ≡ diagonal (turned z)
unfolding gate_W diagonal
W_times_diagonal z = times_diagonal gate_W z ∙ equal_entries refl turn none none turn
  where
    turn : product z ω ≡ turned z
    turn = product_comm z ω ∙ omega_times z

    none : product z nothing ≡ nothing
    none = solve elements (z ∷ []) (var 0 ⊗ con (pos 0)) (con (pos 0)) tt

run_of_W : (j : ℕ) → matrix_of (replicate j W) ≡ diagonal (omega_power j)
unfolding matrix_of identity diagonal omega_power gate
run_of_W zero = refl
run_of_W (suc j) = ap (times gate_W) (run_of_W j) ∙ W_times_diagonal (omega_power j)

-- j W's on the right of a text multiply its matrix by ω^j
pub Ws_are_a_phase : (t : List ℕ) (j : ℕ) → matrix_of (t ++ replicate j W) ≡ phased j (matrix_of t)
unfolding phased
Ws_are_a_phase t j = matrix_of_append t (replicate j W) ∙ ap (times (matrix_of t)) (run_of_W j) ∙ times_diagonal (matrix_of t) (omega_power j)

-- ---- eight turns are none
eight_turns : (x : Element) → turned (turned (turned (turned (turned (turned (turned (turned x))))))) ≡ x
unfolding turned
eight_turns x =
    coefficientwise (coefficients (x ∷ [])) (turnedᶠ (turnedᶠ (turnedᶠ (turnedᶠ (turnedᶠ (turnedᶠ (turnedᶠ (turnedᶠ xᶠ)))))))) xᶠ (tt, tt, tt, tt)

-- so powers of ω go round 8
round : (q r : ℕ) → omega_power (8 * q + r) ≡ omega_power r
unfolding omega_power
round zero r = ap omega_power (zero-add r)
round (suc q) r =
    let eight : 8 * suc q + r ≡ suc (suc (suc (suc (suc (suc (suc (suc (8 * q + r)))))))) = omega arith in
    ap omega_power eight ∙ eight_turns (omega_power (8 * q + r)) ∙ round q r

power_round : (i j : ℕ) → i % 8 ≡ j % 8 → omega_power i ≡ omega_power j
power_round i j e = whole i ∙ ap omega_power e ∙ sym (whole j)
  where
    whole : (k : ℕ) → omega_power k ≡ omega_power (k % 8)
    whole k = let split : k ≡ 8 * (k / 8) + k % 8 = omega arith in ap omega_power split ∙ round (k / 8) (k % 8)

pub phased_round : (i j : ℕ) (m : Matrix) → i % 8 ≡ j % 8 → phased i m ≡ phased j m
unfolding phased
phased_round i j m e =
    λ k. let z = power_round i j e k in
    matrix m.exponent (product z m.top.left) (product z m.top.right) (product z m.bottom.left) (product z m.bottom.right)

-- ---- W's added to a tail
-- a tail's number with j W's more: its last three bits go round, and nothing else of it changes
abbrev pub with_Ws : ℕ → ℕ → ℕ
with_Ws n j = 8 * (n / 8) + (tail_a n + j) % 8

-- a tail without its W's
before_Ws : ℕ → List ℕ
before_Ws n = head_text (tail_h n) ++ (replicate (tail_b n) X ++ replicate (tail_c n) S)

tail_ends_in_Ws : (n : ℕ) → tail_text n ≡ before_Ws n ++ replicate (tail_a n) W
unfolding tail_text before_Ws
tail_ends_in_Ws n = simp append_assoc

with_Ws_before : (n j : ℕ) → before_Ws (with_Ws n j) ≡ before_Ws n
unfolding before_Ws
with_Ws_before n j =
    let at_h : tail_h (with_Ws n j) ≡ tail_h n = omega arith in
    let at_b : tail_b (with_Ws n j) ≡ tail_b n = omega arith in
    let at_c : tail_c (with_Ws n j) ≡ tail_c n = omega arith in
    simp (at_h, at_b, at_c)

-- a tail is known by what stands before its W's and by their number
pub with_Ws_known : (m n j : ℕ) → m / 8 ≡ n / 8 → (tail_a n + j) % 8 ≡ tail_a m → m ≡ with_Ws n j
with_Ws_known m n j before Ws = omega arith

pub with_Ws_in_tails : (n j : ℕ) → n < tails → with_Ws n j < tails
with_Ws_in_tails n j n< = omega arith

-- the text that ends in a tail, times ω^j, is the text that ends in the tail with j W's more
pub phased_text : (p : List ℕ) (n j : ℕ) → phased j (matrix_of (p ++ tail_text n)) ≡ matrix_of (p ++ tail_text (with_Ws n j))
phased_text p n j =
    sym (Ws_are_a_phase (p ++ tail_text n) j)
    ∙ ap matrix_of joined
    ∙ Ws_are_a_phase (p ++ before_Ws n) (tail_a n + j)
    ∙ phased_round (tail_a n + j) (tail_a (with_Ws n j)) (matrix_of (p ++ before_Ws n)) (omega arith)
    ∙ sym (Ws_are_a_phase (p ++ before_Ws n) (tail_a (with_Ws n j)))
    ∙ ap matrix_of split
  where
    joined : (p ++ tail_text n) ++ replicate j W ≡ (p ++ before_Ws n) ++ replicate (tail_a n + j) W
    joined = rw (tail_ends_in_Ws n, ← replicate-append-replicate (tail_a n) j W) (simp append_assoc)

    split : (p ++ before_Ws n) ++ replicate (tail_a (with_Ws n j)) W ≡ p ++ tail_text (with_Ws n j)
    split = rw (tail_ends_in_Ws (with_Ws n j), with_Ws_before n j) (append_assoc p (before_Ws n) (replicate (tail_a (with_Ws n j)) W))
