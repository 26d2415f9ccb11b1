-- What bits do while a target waits for them, once it has them, and beyond. Assumes nothing.
use Rattle.std.proofs.Common.{◌≡◌, ℕ, ◌+◌, ◌<◌, ◌≤◌, cond, [], ◌∷◌, ◌++◌, length, take, drop, sym, refl, ap, ◌∙◌, arith}
use Rattle.std.proofs.lemmas.List.{append-nil, append_assoc, length-append, take-append-drop, length-take-le}
use Rattle.std.proofs.lemmas.Bool.{lt-ltb, le-ltb}
use Rattle.model.specs.Parser.{Bits, Parser, Target, state, accept, reject}
use Rattle.model.specs.Config.{Config, needs, transition, step, steps}
use Rattle.model.specs.Theory.{TakenAtOnce}
use Rattle.theory.specs.Machine.{run}
use Rattle.theory.specs.Good.{machine}

pub steps-run : (p : Parser) (a : Config) (bs : Bits) → steps p a bs ≡ run (machine p) a bs
unfolding steps
steps-run p a [] = refl
steps-run p a (b ∷ bs) = steps-run p (step p a b) bs

pub steps-append : (p : Parser) (a : Config) (v w : Bits) → steps p a (v ++ w) ≡ steps p (steps p a v) w
unfolding steps
steps-append p a [] w = refl
steps-append p a (b ∷ v) w = steps-append p (step p a b) v w

pub steps_more : (p : Parser) (a : Config) (b : ℕ) (w : Bits) → steps p a (b ∷ w) ≡ steps p (step p a b) w
unfolding steps
steps_more p a b w = refl

pub steps_none : (p : Parser) (a : Config) → steps p a [] ≡ a
unfolding steps
steps_none p a = refl

-- with more bits in the buffer
abbrev pub grown : Config → Bits → Config
grown a w = record { target = a.target; store = a.store; buffer = a.buffer ++ w }

-- one bit that is not the last, and one that is
pub step_waits : (p : Parser) (a : Config) (b : ℕ) → length a.buffer + 1 < needs p a.target → step p a b ≡ grown a (b ∷ [])
step_waits p a b l =
    ap (λ t. cond t (grown a (b ∷ [])) (transition p a (a.buffer ++ (b ∷ [])) a.target)) (lt-ltb _ _ (omega (arith, length-append a.buffer (b ∷ []))))

pub step_completes : (p : Parser) (a : Config) (b : ℕ) → needs p a.target ≤ length a.buffer + 1 → step p a b ≡ transition p a (a.buffer ++ (b ∷ [])) a.target
step_completes p a b l =
    ap (λ t. cond t (grown a (b ∷ [])) (transition p a (a.buffer ++ (b ∷ [])) a.target)) (le-ltb _ _ (omega (arith, length-append a.buffer (b ∷ []))))

-- a transition doesn't look at the buffer that it is made from
transition_grown : (p : Parser) (a : Config) (w bs : Bits) (t : Target) → transition p (grown a w) bs t ≡ transition p a bs t
unfolding transition
transition_grown p a w bs (state q) = refl
transition_grown p a w bs accept = refl
transition_grown p a w bs reject = refl

-- fewer bits than a target needs only grow the buffer
pub waiting : (p : Parser) (a : Config) (w : Bits) → length a.buffer + length w < needs p a.target → steps p a w ≡ grown a w
waiting p a [] l = steps_none p a ∙ ap (λ bs. record { target = a.target; store = a.store; buffer = bs }) (sym (append-nil a.buffer))
waiting p a (b ∷ w) l =
    steps_more p a b w ∙ ap (λ x. steps p x w) (step_waits p a b (omega arith)) ∙ waiting p (grown a (b ∷ [])) w (omega (arith, length-append a.buffer (b ∷ [])))
    ∙ ap (λ bs. record { target = a.target; store = a.store; buffer = bs }) (append_assoc a.buffer (b ∷ []) w)

-- as many as it needs make the transition
pub completing : (p : Parser) (a : Config) (w : Bits) → length a.buffer < needs p a.target → length a.buffer + length w ≡ needs p a.target
    → steps p a w ≡ transition p a (a.buffer ++ w) a.target
completing p a [] ready l = absurd (omega arith)
completing p a (b ∷ []) ready l = steps_more p a b [] ∙ steps_none p (step p a b) ∙ step_completes p a b (omega arith)
completing p a (b ∷ c ∷ w) ready l =
    steps_more p a b (c ∷ w) ∙ ap (λ x. steps p x (c ∷ w)) (step_waits p a b (omega arith))
    ∙ completing p (grown a (b ∷ [])) (c ∷ w) (omega (arith, length-append a.buffer (b ∷ []))) (omega (arith, length-append a.buffer (b ∷ [])))
    ∙ transition_grown p a (b ∷ []) ((a.buffer ++ b ∷ []) ++ (c ∷ w)) a.target ∙ ap (λ bs. transition p a bs a.target) (append_assoc a.buffer (b ∷ []) (c ∷ w))

-- more than it needs go on after the transition
pub going_on : (p : Parser) (a : Config) (k : ℕ) (w : Bits) → length a.buffer < needs p a.target → length a.buffer + k ≡ needs p a.target → k ≤ length w
    → steps p a w ≡ steps p (transition p a (a.buffer ++ take k w) a.target) (drop k w)
going_on p a k w ready all l =
    sym (ap (steps p a) (take-append-drop k w)) ∙ steps-append p a (take k w) (drop k w)
    ∙ ap (λ x. steps p x (drop k w)) (completing p a (take k w) ready (omega (arith, length-take-le k w l)))

pub taken_at_once : TakenAtOnce
unfolding TakenAtOnce
taken_at_once p a bs none l =
    waiting p a bs (omega (arith, ap length none)) ∙ ap (λ xs. record { target = a.target; store = a.store; buffer = xs ++ bs }) none
