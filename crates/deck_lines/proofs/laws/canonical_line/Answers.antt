use Rattle.std.proofs.Common.{sym, subst}
use Rattle.deck_lines.specs.Forms.{Words}
use Rattle.deck_lines.specs.Lines.{IsLine}
use Rattle.deck_lines.proofs.Restating.{canons, line_again}
use Rattle.deck_lines.proofs.Shorter.{line_short}
use Rattle.deck_lines.proofs.Spacing.{Scripts, apart_again, cut_again, whole_again}
use Rattle.deck_lines.proofs.laws.canonical_line.Goals as goal

scripts : (c : goal.After-joined_words) → Scripts
scripts c = record {
  canon = canons
      (λ acc list s h. (let f = c.canonical_script.ensures.formed acc list s h in c.canonical_script.ensures.spells acc s f.0 f.1))
      (λ acc list s h. c.canonical_script.ensures.words acc s (c.canonical_script.ensures.formed acc list s h).0)
      (λ picks list s few h. (let f = c.canonical_body.ensures.formed picks list s h in c.canonical_body.ensures.spells picks s few f.0 f.1))
      (λ picks list s few h. c.canonical_body.ensures.words picks s few (c.canonical_body.ensures.formed picks list s h).0);
  stand = record {
    script = λ acc list s last more h m. c.canonical_script.ensures.apart acc s last more (c.canonical_script.ensures.formed acc list s h).0 m;
    body = λ picks list s last more few h m. c.canonical_body.ensures.apart picks s last more few (c.canonical_body.ensures.formed picks list s h).0 m;
  };
}

pub returns : goal.returns
returns c = record {
  says = line_again (scripts c).canon;
  apart = apart_again (scripts c);
  cut = cut_again (scripts c) c.joined_words.ensures.back;
  back = λ words line h. subst (λ (ws : Words). IsLine ws line) (sym (cut_again (scripts c) c.joined_words.ensures.back words line h)) (line_again (scripts c).canon words line h);
  whole = whole_again (scripts c);
  short = line_short (record { script = c.canonical_script.ensures.within; body = c.canonical_body.ensures.within }) c.joined_words.ensures.short;
}
