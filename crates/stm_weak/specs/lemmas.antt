pub mod WeakExamples
