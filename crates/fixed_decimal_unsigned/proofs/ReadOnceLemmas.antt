-- A text spells at most one number.
use Rattle.std.proofs.Common.{◌≡◌, ℕ, ◌+◌, ◌<◌, ◌==◌, ◌||◌, Bool, true, false, cond, List, [], ◌∷◌, ◌++◌, length, refl, sym, ap, ◌∙◌, subst, arith}
use Rattle.std.specs.Char.{digit_value}
use Rattle.fixed_decimal_unsigned.specs.Number.{Number}
use Rattle.fixed_decimal_unsigned.specs.NumberText.{AreDigits, spelled, after_mark, minus_if, minus, Parts, Spells, number_of, number_at, mantissa_of, up_of, down_of, Reads, AreEndsIn, IsBeyond}
use Rattle.fixed_decimal_unsigned.proofs.TextPartsLemmas.{cons_head, cons_tail, found_parts, exponent_no_digit, exponent_no_point}

-- two exponents of one text have the same digits, and the same sign where there are digits
pub record AreSamePowers (first second : Bool) (one other : List ℕ) : Type 0 where
  pub digits : one ≡ other
  pub sign : 0 < length one → first ≡ second

minus_no_digit : (c : ℕ) (cs ds : List ℕ) → digit_value c < 10 → minus ∷ ds ≡ c ∷ cs → ⊥
minus_no_digit c cs ds d e = let h : digit_value 45 < 10 = subst (λ n. digit_value n < 10) (sym (cons_head minus c ds cs e)) d in omega arith

same_after : (first second : Bool) (c : ℕ) (cs : List ℕ) (d : ℕ) (ds : List ℕ) → digit_value c < 10 → digit_value d < 10 → minus_if first ++ (c ∷ cs) ≡ minus_if second ++ (d ∷ ds) → AreSamePowers first second (c ∷ cs) (d ∷ ds)
same_after true true c cs d ds h k e = record { digits = cons_tail minus minus (c ∷ cs) (d ∷ ds) e; sign = λ _. refl }
same_after true false c cs d ds h k e = absurd (minus_no_digit d ds (c ∷ cs) k e)
same_after false true c cs d ds h k e = absurd (minus_no_digit c cs (d ∷ ds) h (sym e))
same_after false false c cs d ds h k e = record { digits = e; sign = λ _. refl }

same_power_by : (one other : List ℕ) (first second : Bool) (mark sign : ℕ) → AreDigits one → AreDigits other → after_mark mark first one ≡ after_mark sign second other → AreSamePowers first second one other
same_power_by [] [] first second mark sign h k e = record { digits = refl; sign = λ p. absurd (omega arith) }
same_power_by [] (d ∷ ds) first second mark sign h k e = absurd (cc)
same_power_by (c ∷ cs) [] first second mark sign h k e = absurd (cc)
same_power_by (c ∷ cs) (d ∷ ds) first second mark sign h k e =
    same_after first second c cs d ds h.0 k.0 (cons_tail mark sign (minus_if first ++ (c ∷ cs)) (minus_if second ++ (d ∷ ds)) e)

nothing_moved : (b : Bool) → cond b 0 (0 + 0) ≡ 0
nothing_moved true = refl
nothing_moved false = refl

-- how far two texts of one mantissa and the same exponent are moved
same_up : (b first second : Bool) (one other : List ℕ) → AreSamePowers first second one other → cond (b || first) 0 (spelled one) ≡ cond (b || second) 0 (spelled other)
same_up b first second [] other h =
    nothing_moved (b || first) ∙ sym (nothing_moved (b || second)) ∙ ap (λ t. cond (b || second) 0 (spelled t)) h.digits
same_up b first second (c ∷ cs) other h =
    ap (λ s. cond (b || s) 0 (spelled (c ∷ cs))) (h.sign (omega arith)) ∙ ap (λ t. cond (b || second) 0 (spelled t)) h.digits

none_down : (b s : Bool) → cond b 0 (cond s (0 + 0) 0) ≡ 0
none_down true s = refl
none_down false true = refl
none_down false false = refl

same_down : (b first second : Bool) (one other : List ℕ) → AreSamePowers first second one other → cond b 0 (cond first (spelled one) 0) ≡ cond b 0 (cond second (spelled other) 0)
same_down b first second [] other h =
    none_down b first ∙ sym (none_down b second) ∙ ap (λ t. cond b 0 (cond second (spelled t) 0)) h.digits
same_down b first second (c ∷ cs) other h =
    ap (λ s. cond b 0 (cond s (spelled (c ∷ cs)) 0)) (h.sign (omega arith)) ∙ ap (λ t. cond b 0 (cond second (spelled t) 0)) h.digits

-- the parts that decide the number are the same
pub record AreSameParts (p q : Parts) : Type 0 where
  pub integer : p.integer ≡ q.integer
  pub fraction : p.fraction ≡ q.fraction
  pub power : AreSamePowers p.negative q.negative p.exponent q.exponent

pub spelled_once : (text : List ℕ) (p q : Parts) → Spells text p → Spells text q → AreSameParts p q
spelled_once text p q h k =
    let no_digit = exponent_no_digit h.last p.negative p.exponent h.power in
    let no_point = exponent_no_point h.last p.negative p.exponent h.power in
    let found = found_parts text p.integer p.fraction h.last h.whole h.integer_digits h.fraction_digits no_digit (λ _. no_point) q k in
    record {
      integer = found.0;
      fraction = found.1;
      power = same_power_by p.exponent q.exponent p.negative q.negative h.power.mark k.power.mark h.power.digits k.power.digits (sym h.power.whole ∙ found.2 ∙ k.power.whole);
    }

same_mantissa : (p q : Parts) → AreSameParts p q → mantissa_of p ≡ mantissa_of q
same_mantissa p q s = ap (λ x. spelled (x ++ p.fraction)) s.integer ∙ ap (λ x. spelled (q.integer ++ x)) s.fraction

pub same_moves_up : (p q : Parts) → AreSameParts p q → up_of p ≡ up_of q
same_moves_up p q s = ap (λ m. cond (m == 0 || p.negative) 0 (spelled p.exponent)) (same_mantissa p q s) ∙ same_up (mantissa_of q == 0) p.negative q.negative p.exponent q.exponent s.power

pub same_moves_down : (p q : Parts) → AreSameParts p q → down_of p ≡ down_of q
same_moves_down p q s = ap (λ m. cond (m == 0) 0 (cond p.negative (spelled p.exponent) 0)) (same_mantissa p q s) ∙ same_down (mantissa_of q == 0) p.negative q.negative p.exponent q.exponent s.power

pub same_at : (m n a b c d u v w x : ℕ) → m ≡ n → a ≡ b → c ≡ d → u ≡ v → w ≡ x → number_at m a c u w ≡ number_at n b d v x
same_at m n a b c d u v w x e f g h i =
    ap (λ y. number_at y a c u w) e ∙ ap (λ y. number_at n y c u w) f ∙ ap (λ y. number_at n b y u w) g ∙ ap (λ y. number_at n b d y w) h ∙ ap (λ y. number_at n b d v y) i

pub same_number_of : (p q : Parts) → AreSameParts p q → number_of p ≡ number_of q
same_number_of p q s =
    same_at (mantissa_of p) (mantissa_of q) (length p.integer) (length q.integer) (length p.fraction) (length q.fraction) (up_of p) (up_of q) (down_of p) (down_of q)
    (same_mantissa p q s) (ap length s.integer) (ap length s.fraction) (same_moves_up p q s) (same_moves_down p q s)

-- a text spells one number
pub reads_once : (text : List ℕ) (a b : Number) → Reads text a → Reads text b → a ≡ b
reads_once text a b h k = h.is ∙ same_number_of h.parts k.parts (spelled_once text h.parts k.parts h.spells k.spells) ∙ sym k.is

-- and no text is both within the limits and beyond them
pub reads_not_beyond : (text : List ℕ) (a : Number) → Reads text a → IsBeyond text → ⊥
reads_not_beyond text a h k =
    let s = spelled_once text h.parts k.parts h.spells k.spells in
    let q = k.parts in
    k.beyond
    (subst (λ x. AreEndsIn x (length q.fraction) (up_of q) (down_of q)) (ap length s.integer)
    (subst (λ x. AreEndsIn (length h.parts.integer) x (up_of q) (down_of q)) (ap length s.fraction)
    (subst (λ x. AreEndsIn (length h.parts.integer) (length h.parts.fraction) x (down_of q)) (same_moves_up h.parts q s)
    (subst (λ x. AreEndsIn (length h.parts.integer) (length h.parts.fraction) (up_of h.parts) x) (same_moves_down h.parts q s) h.within))))
