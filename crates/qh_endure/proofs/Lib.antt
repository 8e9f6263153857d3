-- Lemmas: what one call comes to, and what several come to.
mod Calls
mod Rounds
