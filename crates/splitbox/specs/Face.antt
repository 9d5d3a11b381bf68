-- What crosses to C: an outcome as one number, and a list in four lent places. A refusal leaves every lent slice and number as it was.
use Rattle.std.specs.Prelude.{ℕ, ◌+◌, ◌-◌, ◌*◌, ◌^◌, ◌≤◌, ◌<◌, min, ◌≡◌}
use Rattle.statement.specs.declared.Splits.{Splits}
use Rattle.statement.specs.Outcomes.{Growth, Reading, Outcome, Done, Short, Refused}
use Rattle.statement.specs.Steps.{Step}
use Rattle.statement.specs.Steps as step
use Rattle.statement.specs.Refusals.{place_of}
use Rattle.statement.specs.Calls.{unless_refused}

-- THE REPLY: done is 0, short is 255, a refusal its number of document 01's table; its place stands above this low byte
abbrev pub code_of : Outcome → ℕ
code_of Done = 0
code_of Short = 255
code_of (Refused number place) = number

abbrev pub reply_of : Outcome → ℕ
reply_of o = code_of o + 256 * place_of o

-- what every refusal keeps to, so that number and place share a reply and no number is taken for done, end or short
abbrev pub Shares : Outcome → Type 0
Shares Done = Unit {0}
Shares Short = Unit {0}
Shares (Refused number place) = (1 ≤ number) × (number < 254) × (place < 2 ^ 48)

-- what growth and a whole run hand back: the reply r, and in the lent places a list s and a number t of trials, where s₀ and t₀ were
abbrev pub HandedBack : Growth → ℕ → Splits → Splits → ℕ → ℕ → Type 0
HandedBack g r s₀ s t₀ t =
    (r ≡ reply_of g.outcome) × (s ≡ unless_refused g.outcome s₀ g.list) × (t ≡ unless_refused g.outcome t₀ g.trials)

-- the same where the list that was there is what is grown
abbrev pub GrownBack : (Splits → Growth) → ℕ → Splits → Splits → ℕ → ℕ → Type 0
GrownBack grow r s₀ s t₀ t = HandedBack (grow s₀) r s₀ s t₀ t

-- the same for a tree read
abbrev pub ReadBack : Reading → ℕ → Splits → Splits → Type 0
ReadBack g r s₀ s = (r ≡ reply_of g.outcome) × (s ≡ unless_refused g.outcome s₀ g.list)

-- a place as a reply says it, where nothing limits it but the length of a text: no text reaches 2 ^ 48 bytes, and a place so far off is said as 2 ^ 48 - 1
abbrev pub nearly : Outcome → Outcome
nearly Done = Done
nearly Short = Short
nearly (Refused number place) = Refused number (min place (2 ^ 48 - 1))

-- the same for a text read
abbrev pub TextBack : Reading → ℕ → Splits → Splits → Type 0
TextBack g r s₀ s = ReadBack (record { outcome = nearly g.outcome; list = g.list }) r s₀ s

-- THE WALKER's step: the reply r (a record is 0, the end 254, a refused record its number), and in the lent places where it stands (p), and the
-- start and the length of a found body (b, l), where p₀, b₀ and l₀ were
abbrev pub Walked : Step → ℕ → ℕ → ℕ → ℕ → ℕ → ℕ → ℕ → Type 0
Walked step.End r p₀ p b₀ b l₀ l = (r ≡ 254) × (p ≡ p₀) × (b ≡ b₀) × (l ≡ l₀)
Walked (step.Found start len next) r p₀ p b₀ b l₀ l = (r ≡ 0) × (p ≡ next) × (b ≡ start) × (l ≡ len)
Walked (step.Refused number place) r p₀ p b₀ b l₀ l = (r ≡ number) × (p ≡ p₀) × (b ≡ b₀) × (l ≡ l₀)
