use Rattle.std.proofs.Common.{◌≡◌, ℕ, Bool, sym, ap, ◌∙◌, ◌&&◌, ◌||◌, not, true, false, refl}
use Rattle.signal_graph.specs.Graph.{is_in}
use Rattle.order_graph.specs.Order.{reaches}
use Rattle.flow_model.specs.Machine.State.{LiveCall, live, precedes}
use Rattle.flow_model.specs.Machine.Words.{presses}
use Rattle.flow_model.specs.Machine.Next.{least_version}
use Rattle.flow_model.specs.Parts.Books.{bare}
use Rattle.flow_state.specs.Booked.{Booked}
use Rattle.flow_state.proofs.book.Book.first_pressing.Goals as goal

or_none : (a : Bool) → (a || false) ≡ a
or_none true = refl
or_none false = refl

-- behind a live call is what recorded pairs lead to
behind : (book : Booked) (t : ℕ) → live (bare book.book) t ≡ true → (v : ℕ) → reaches book.book.pairs t v ≡ precedes (bare book.book) t v
behind book t h v = sym (ap (λ b. reaches book.book.pairs t v || (not b && live (bare book.book) v)) h ∙ or_none (reaches book.book.pairs t v))

assoc : (a b c : Bool) → (a && (b && c)) ≡ ((a && b) && c)
assoc true b c = refl
assoc false b c = refl

one_presses : (book : Booked) (t n : ℕ) → live (bare book.book) t ≡ true → (x : LiveCall) → (x.executing && (reaches book.book.pairs t x.version && is_in n x.wanted)) ≡ presses (bare book.book) t n x
one_presses book t n h x =
    ap (λ b. x.executing && (b && is_in n x.wanted)) (behind book t h x.version)
    ∙ assoc x.executing (precedes (bare book.book) t x.version) (is_in n x.wanted)

pub returns : goal.returns
returns c =
    let b = c.args.self.now in
    let same : (λ (x : LiveCall). x.executing && (reaches b.book.pairs c.args.version x.version && is_in c.args.node x.wanted)) ≡ presses (bare b.book) c.args.version c.args.node = λ i x. one_presses b c.args.version c.args.node c.requires.live x i in
    c.first_pressing.ensures
    ∙ ap (λ (y : Booked). least_version (λ (x : LiveCall). x.executing && (reaches y.book.pairs c.args.version x.version && is_in c.args.node x.wanted)) y.book.calls) c.self.view_is
    ∙ ap (λ (test : LiveCall → Bool). least_version test b.book.calls) same
